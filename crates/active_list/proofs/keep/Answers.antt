use Rattle.graph.specs.Form.{Laid}
use Rattle.active_list.specs.laws.Renewal.{entry-left, entry_kept}
use native.Mathlib.Omega.{arith}
use Rattle.active_list.proofs.keep.Goals as goal

pub returns-then-grow_state-eq-STAY : goal.returns-then-grow_state-eq-STAY
returns-then-grow_state-eq-STAY c =
    entry-left _ c.args.i c.args.j _ _ c.active_node-n.ensures.0
    c.grow_state.ensures.0 c.requires.0 c.if-grow_state-eq-STAY.true

pub overflow_add-result : goal.overflow_add-result
unfolding Laid
overflow_add-result c = let q = c.requires.0.laid in omega (arith, q.counted, q.sized)

pub returns : goal.returns
returns c =
    entry_kept _ c.args.i c.args.j _ _ c.active_node-n.ensures.0
    c.grow_state.ensures.0 c.if-grow_state-eq-STAY.false
    c.put_entry.ensures

use native.Mathlib.Omega.{arith}
use mathlib.Core.Path.{sym, ◌∙◌}
use lib.Dec.{ltb}
use Rattle.graph.specs.State.{side_count, boundary_of}
use Rattle.graph.specs.Layout.{state_of}
use Rattle.graph.specs.inner.Form.{sides_ok}
use Rattle.graph.specs.laws.Scan.{list-more, list-fails, list_done}
use Rattle.node_tests.proofs.node_lists.sides_from.Goals as goal

pub loop-i-preserved : goal.loop-i-preserved
loop-i-preserved c = let b = c.args.b.now in
    let e = sym c.is_side.ensures ∙ c.if-not-is_side.false in
    list-more (λ x. ltb x (side_count (state_of b))) (boundary_of (state_of b) c.args.n) c.loop-i.i 0 (omega arith) c.loop-i.invariant e

pub returns-then-not-is_side : goal.returns-then-not-is_side
unfolding sides_ok
returns-then-not-is_side c = let b = c.args.b.now in
    let e = sym c.is_side.ensures ∙ c.if-not-is_side.true in
    sym (list-fails (λ x. ltb x (side_count (state_of b))) (boundary_of (state_of b) c.args.n) c.loop-i.i 0 (omega arith) e)

pub returns : goal.returns
unfolding sides_ok
returns c = let b = c.args.b.now in
    list_done (λ x. ltb x (side_count (state_of b))) (boundary_of (state_of b) c.args.n) c.loop-i.i (omega arith) c.loop-i.invariant

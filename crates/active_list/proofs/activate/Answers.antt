use Rattle.active_list.specs.laws.Joining.{activated-joins, activated-none}
use Rattle.active_list.proofs.activate.Goals as goal

pub returns-then-grow_state-x : goal.returns-then-grow_state-x
returns-then-grow_state-x c =
    activated-joins _ c.args.n c.args.x
    (rw c.grow_state.ensures.0 at c.if-grow_state-x.true)
    c.join.ensures

pub returns-else-grow_state-x : goal.returns-else-grow_state-x
returns-else-grow_state-x c =
    activated-none _ c.args.n c.args.x c.requires.0 (rw c.grow_state.ensures.0 at c.if-grow_state-x.false)

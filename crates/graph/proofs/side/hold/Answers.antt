use Rattle.graph.specs.State.{held_side}
use Rattle.graph.specs.laws.Row.{becomes-then}
use Rattle.graph.proofs.side.hold.Goals as goal

pub returns : goal.returns
unfolding held_side
returns c = let p = c.set_holder.ensures in becomes-then p (rw p.state at c.set_grandson.ensures)

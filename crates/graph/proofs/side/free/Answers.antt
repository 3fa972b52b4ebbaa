use Rattle.graph.specs.State.{free_side}
use Rattle.graph.specs.laws.Row.{becomes-then}
use Rattle.graph.proofs.side.free.Goals as goal

pub returns : goal.returns
unfolding free_side
returns c = let p = c.set_holder.ensures in becomes-then p (rw p.state at c.set_grandson.ensures)

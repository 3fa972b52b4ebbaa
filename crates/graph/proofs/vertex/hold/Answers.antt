use Rattle.graph.specs.State.{held_vertex}
use Rattle.graph.specs.laws.Row.{becomes-then}
use Rattle.graph.proofs.vertex.hold.Goals as goal

pub returns : goal.returns
unfolding held_vertex
returns c = let p = c.set_holder.ensures in becomes-then p (rw p.state at c.set_grandson.ensures)

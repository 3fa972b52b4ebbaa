use Rattle.graph.specs.Node.{grown_node}
use Rattle.graph.proofs.dual_node.DualNode.grown.Goals as goal

pub returns : goal.returns
unfolding grown_node
returns c = rw (c.move_number.ensures, c.move_top.ensures)

use mathlib.Core.Path.{refl}
use Rattle.graph.specs.Node.{empty_node}
use Rattle.graph.proofs.dual_node.DualNode.empty.Goals as goal

pub returns : goal.returns
unfolding empty_node
returns c = refl

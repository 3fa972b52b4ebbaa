use mathlib.Core.Path.{refl}
use Rattle.graph.specs.Node.{empty_node}
use Rattle.store.proofs.insert.new_node.Goals as goal

pub returns : goal.returns
unfolding empty_node
returns c = rw c.empty-d.ensures refl

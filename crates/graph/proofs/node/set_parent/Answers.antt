use native.Mathlib.Omega.{arith}
use Rattle.graph.specs.Form.{Laid}
use Rattle.graph.specs.laws.Field.{parent-put}
use Rattle.graph.proofs.node.set_parent.Goals as goal

pub put_node-requires : goal.put_node-requires
unfolding Laid
put_node-requires c = (c.requires.0.laid, omega arith, omega arith, omega arith)

pub returns : goal.returns
returns c = parent-put c.args.n c.args.x c.requires.0 c.requires.1 c.put_node.ensures

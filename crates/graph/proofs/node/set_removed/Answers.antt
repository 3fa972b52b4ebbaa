use Rattle.graph.specs.laws.Class.{class-removed}
use Rattle.graph.specs.laws.Field.{class-put}
use native.Mathlib.Omega.{arith}
use Rattle.graph.specs.Form.{Laid}
use Rattle.graph.proofs.node.set_removed.Goals as goal

pub put_node-requires : goal.put_node-requires
unfolding Laid
put_node-requires c = (c.requires.0.laid, omega arith, omega arith, omega arith)

pub returns : goal.returns
returns c =
    rw (c.vertex_count-v.ensures.0, class-removed _)
    at (class-put c.args.n _ c.requires.0 c.requires.1 c.put_node.ensures)

use Rattle.graph.specs.laws.Field.{vertex-grandson-put}
use Rattle.graph.proofs.vertex.set_grandson.Goals as goal

pub returns : goal.returns
returns c = vertex-grandson-put c.args.v c.args.x c.requires.0 c.put_vertex.ensures

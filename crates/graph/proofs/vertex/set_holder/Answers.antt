use Rattle.graph.specs.laws.Field.{vertex-holder-put}
use Rattle.graph.proofs.vertex.set_holder.Goals as goal

pub returns : goal.returns
returns c = vertex-holder-put c.args.v c.args.x c.requires.0 c.put_vertex.ensures

use Rattle.graph.specs.laws.Field.{weight-put}
use Rattle.graph.proofs.edge.set_weight.Goals as goal

pub returns : goal.returns
returns c = weight-put c.args.i c.args.x c.requires.0 c.requires.2 c.put_edge.ensures

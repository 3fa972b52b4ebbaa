use Rattle.graph.specs.laws.Field.{mark-put}
use Rattle.graph.proofs.edge.set_reweighted.Goals as goal

pub returns : goal.returns
returns c = mark-put c.args.x c.requires.0 c.put_reweighted.ensures

use Rattle.graph.specs.laws.Field.{growth-put}
use Rattle.graph.proofs.side.set_growth.Goals as goal

pub returns : goal.returns
returns c = growth-put c.args.s c.args.x c.requires.0 c.put_side.ensures

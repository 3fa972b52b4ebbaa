use Rattle.graph.specs.laws.Field.{grandson-put}
use Rattle.graph.proofs.side.set_grandson.Goals as goal

pub returns : goal.returns
returns c = grandson-put c.args.s c.args.x c.requires.0 c.put_side.ensures

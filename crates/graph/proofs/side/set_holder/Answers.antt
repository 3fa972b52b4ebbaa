use Rattle.graph.specs.laws.Field.{holder-put}
use Rattle.graph.proofs.side.set_holder.Goals as goal

pub returns : goal.returns
returns c = holder-put c.args.s c.args.x c.requires.0 c.put_side.ensures

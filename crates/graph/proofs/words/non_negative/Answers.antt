use Rattle.graph.proofs.Magnitude.{read-non-neg}
use Rattle.graph.proofs.words.non_negative.Goals as goal

pub returns : goal.returns
returns c = read-non-neg c.args.x c.ranges.x

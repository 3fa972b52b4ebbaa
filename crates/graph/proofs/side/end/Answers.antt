use Rattle.graph.specs.Layout.{state_of, state_from}
use Rattle.graph.specs.laws.Field.{end_below}
use mathlib.Core.Path.{refl}
use Rattle.graph.proofs.side.end.Goals as goal

pub returns : goal.returns
unfolding state_of state_from
returns c = rw c.side_word.ensures.0 (refl, end_below c.args.b.now c.args.s c.requires.0 c.requires.1)

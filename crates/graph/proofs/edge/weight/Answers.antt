use mathlib.Core.Path.{refl}
use Rattle.graph.specs.Layout.{state_of, state_from}
use Rattle.graph.specs.laws.Field.{weight-below}
use Rattle.graph.proofs.edge.weight.Goals as goal

pub returns : goal.returns
unfolding state_of state_from
returns c = rw c.edge_word.ensures.0 (refl, weight-below c.args.b.now c.args.i c.requires.0 c.requires.1)

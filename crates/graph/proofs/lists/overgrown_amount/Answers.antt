use native.Mathlib.Omega.{arith}
use mathlib.Core.Path.{ap}
use Rattle.graph.specs.State.{Overgrown}
use Rattle.graph.specs.Layout.{overgrown_from}
use Rattle.graph.proofs.lists.overgrown_amount.Goals as goal

pub returns : goal.returns
unfolding overgrown_from
returns c = (ap (λ (o : Overgrown). o.amount) c.overgrown_word.ensures.0, omega arith)

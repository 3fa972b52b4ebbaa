use mathlib.Core.Path.{refl}
use Rattle.graph.specs.Open.{sizes_ok}
use Rattle.graph.proofs.sizes.sizes_ok.Goals as goal

pub returns : goal.returns
unfolding sizes_ok
returns c = refl

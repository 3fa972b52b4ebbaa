use mathlib.Core.Path.{ap}
use mathlib.Core.Bool.{◌&&◌}
use lib.Dec.{ltb, eqb}
use Rattle.sheet.specs.Sheet.{vanishes}
use Rattle.sheet.proofs.weights.vanishes.Goals as goal

pub returns : goal.returns
unfolding vanishes
returns c = ap (λ w. ltb 0 c.args.t && eqb w 0) c.scaled.ensures.0

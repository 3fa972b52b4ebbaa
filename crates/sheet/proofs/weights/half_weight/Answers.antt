use mathlib.Core.Path.{refl}
use Rattle.sheet.specs.Weight.{half_weight}
use Rattle.sheet.specs.laws.Weight.{half_at_most}
use Rattle.sheet.proofs.weights.half_weight.Goals as goal

pub returns : goal.returns
unfolding half_weight
returns c = (refl, half_at_most c.args.m c.requires.0 c.args.t c.requires.2)

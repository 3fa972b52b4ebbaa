use mathlib.Core.Path.{refl}
use Rattle.refusal.specs.Refusal.{number-some}
use Rattle.blossom.specs.laws.Blossom.{blossom-refused}
use Rattle.record_call.specs.laws.Asking.{opened-usable, answers-blossom}
use Rattle.record_call.proofs.one_call.blossom.Goals as goal

pub returns : goal.returns
returns c = (
  answers-blossom c.requires.1 _ _ refl refl refl
      (blossom-refused (opened-usable c.requires.0) _ _ _ c.long_refusal.ensures (number-some _)),
  refl,
)

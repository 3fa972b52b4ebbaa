use mathlib.Core.Path.{ap}
use Rattle.std.specs.Prelude.{ℕ, List, [], ◌∷◌}
use Rattle.answers.specs.Numbers.{answer_numbers}
use Rattle.answers.specs.laws.Numbers.{tells_as}
use Rattle.answers.proofs.tell_refusal.Goals as goal

pub returns : goal.returns
unfolding answer_numbers
returns g c = tells_as c.front.ensures (ap (λ (k : ℕ). 11 ∷ k ∷ []) c.to_number.ensures)

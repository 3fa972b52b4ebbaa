-- What the exported gap promises: its answer as numbers, as those of crate `c_api`.
use Rattle.std.specs.Prelude.{ℕ, List, [], ◌∷◌, ℤ}
use Rattle.answers.specs.Outcome.{Refused as RefusedCall}
use Rattle.answers.specs.Numbers.{answer_numbers}
use Rattle.c_api.specs.Words.{Told}
use Rattle.gap.specs.declared.Gap.{Gap}
use Rattle.gap.specs.declared.Gap.TheVariants.{Inner, Over, Left}
use Rattle.dual_module_gap.specs.Outcome.{GapAnswer}
use Rattle.dual_module_gap.specs.Outcome.{Found, Refused}
use Rattle.dual_module_gap.specs.GapRead.{GapRead}

-- cases 17 inner, 18 over with the excess, 19 with what is left
unfoldable pub found_numbers : Gap → List ℕ
found_numbers Inner = 17 ∷ []
found_numbers (Over x) = 18 ∷ x ∷ []
found_numbers (Left x) = 19 ∷ x ∷ []

-- a refusal as that of every call
unfoldable pub gap_numbers : GapAnswer → List ℕ
gap_numbers (Found g) = found_numbers g
gap_numbers (Refused k) = answer_numbers (RefusedCall k)

-- `list` is lent for the answer and is list' after, with k numbers of it in front
abbrev pub GapTold : (b t : List ℤ) (e : ℕ) (list list' : List ℕ) → ℕ → Type 0
GapTold b t e list list' k = Told gap_numbers list list' k Unit (λ a. GapRead b t e a)

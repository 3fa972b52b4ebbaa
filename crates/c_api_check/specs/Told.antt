-- What the exported check of a table promises: its answer as numbers, as those of crate `c_api`.
use Rattle.std.specs.Prelude.{ℕ, ◌≡◌, List, [], ◌∷◌, ℤ}
use Rattle.answers.specs.Outcome.{Refused as RefusedCall}
use Rattle.c_api.specs.Words.{answer_numbers, Told}
use Rattle.table_check.specs.Outcome.{Verdict, Yes, No, Refused}
use Rattle.table_check.specs.Verdict.{table_verdict}

-- case 13 and 1 for yes, 0 for no; a refusal as that of every call
unfoldable pub verdict_numbers : Verdict → List ℕ
verdict_numbers Yes = 13 ∷ 1 ∷ []
verdict_numbers No = 13 ∷ 0 ∷ []
verdict_numbers (Refused k) = answer_numbers (RefusedCall k)

-- `list` is lent for the answer and is list' after, with k numbers of the verdict in front
abbrev pub CheckTold : (v e : ℕ) (edges virtuals defects duals growths distances : List ℤ) (list list' : List ℕ) → ℕ → Type 0
CheckTold v e edges virtuals defects duals growths distances list list' k =
    Told verdict_numbers list list' k Unit (λ a. a ≡ table_verdict v e edges virtuals defects duals growths distances)

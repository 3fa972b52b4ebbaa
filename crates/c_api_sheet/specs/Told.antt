-- What the exported opening from a sheet promises: its answer as numbers, as those of crate `c_api`.
use Rattle.std.specs.Prelude.{ℕ, ◌≡◌, List, [], ◌∷◌, ℤ}
use Rattle.answers.specs.Outcome.{Refused as RefusedCall}
use Rattle.c_api.specs.Words.{answer_numbers, Told}
use Rattle.sheet.specs.Outcome.{SheetOpened, Opened, Refused}
use Rattle.sheet.specs.Called.{SheetCalled}

-- case 12 and how many positive values became 0; a refusal as that of every call
unfoldable pub sheet_numbers : SheetOpened → List ℕ
sheet_numbers (Opened k) = 12 ∷ k ∷ []
sheet_numbers (Refused k) = answer_numbers (RefusedCall k)

-- from the block b and the edges to b' and edges'; `list` is lent for the answer and is list' after, with k numbers of it in front
abbrev pub SheetTold : (b t : List ℤ) (v e n l : ℕ) (edges sheet virtuals edges' b' : List ℤ) (list list' : List ℕ) → ℕ → Type 0
SheetTold b t v e n l edges sheet virtuals edges' b' list list' k =
    Told sheet_numbers list list' k ((b' ≡ b) × (edges' ≡ edges)) (λ a. SheetCalled b t v e n l edges sheet virtuals edges' b' a)

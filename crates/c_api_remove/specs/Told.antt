-- What the exported opening of a blossom promises (SPECIFICATION 9 and 18.1): its answer as numbers, as those of crate
-- `c_api`.
use Rattle.std.specs.Prelude.{ℕ, List, ℤ}
use Rattle.answers.specs.Numbers.{answer_numbers}
use Rattle.c_api.specs.Words.{Told, Kept}
use Rattle.dual_module_remove.specs.Called.{RemoveCalled}

-- b and t are block and scratch before, b' and t' after; `list` is lent for the answer and is list' after, with k numbers of
-- it in front
abbrev pub RemoveTold : (b t : List ℤ) (n : ℕ) (b' t' : List ℤ) (list list' : List ℕ) → ℕ → Type 0
RemoveTold b t n b' t' list list' k =
    Told answer_numbers list list' k (Kept b t b' t') (λ a. RemoveCalled b t n b' t' a)

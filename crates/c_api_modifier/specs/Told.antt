-- What the exported change of weights promises (SPECIFICATION 9 and 24.1): its answer as numbers, as those of crate `c_api`.
use Rattle.std.specs.Prelude.{ℕ, ◌≡◌, List, ℤ}
use Rattle.answers.specs.Numbers.{answer_numbers}
use Rattle.c_api.specs.Words.{Told}
use Rattle.dual_module_modifier.specs.Called.{ModifierCalled}

-- b and t are block and scratch before, b' the block after; `list` is lent for the answer and is list' after, with k numbers of it in front
abbrev pub ModifierTold : (b t pairs b' : List ℤ) (list list' : List ℕ) → ℕ → Type 0
ModifierTold b t pairs b' list list' k =
    Told answer_numbers list list' k (b' ≡ b) (λ a. ModifierCalled b t pairs b' a)

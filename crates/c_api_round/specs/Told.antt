-- What the exported calls on all clusters promise: their answers as numbers, as those of crate `c_api`.
use Rattle.std.specs.Prelude.{ℕ, ◌≡◌, List, [], ◌∷◌, ℤ}
use Rattle.answers.specs.Outcome.{Refused as RefusedCall}
use Rattle.answers.specs.declared.MaxUpdateLength.TheVariants.{NonZeroGrow as NodeFree, Unlimited as NodeUnlimited}
use Rattle.answers.specs.Numbers.{length_numbers, answer_numbers}
use Rattle.calls.specs.Group.{GroupMaxUpdateLength as Group}
use Rattle.calls.specs.Group.{NonZeroGrow, Unlimited, Conflicts, Refused}
use Rattle.c_api.specs.Words.{Told}
use Rattle.dual_module_round.specs.Called.{RenewCalled, PrepareAllCalled, RoundCalled, GroupCalled}

-- a length, no limit and a refusal as for one node; else case 14 with the number of conflicts and of stops
unfoldable pub group_numbers : Group → List ℕ
group_numbers (NonZeroGrow l e) = length_numbers (NodeFree l e)
group_numbers (Unlimited e) = length_numbers (NodeUnlimited e)
group_numbers (Conflicts c s) = 14 ∷ c ∷ s ∷ []
group_numbers (Refused k) = answer_numbers (RefusedCall k)

-- block, second block and scratch are as they were
abbrev pub AllKept : (b s t b' s' t' : List ℤ) → Type 0
AllKept b s t b' s' t' = (b' ≡ b) × (s' ≡ s) × (t' ≡ t)

-- b, s and t are block, second block and scratch before, b', s' and t' after; `list` is lent for the answer and is list' after, with k
-- numbers of it in front

abbrev pub RenewTold : (b b' : List ℤ) (list list' : List ℕ) → ℕ → Type 0
RenewTold b b' list list' k = Told answer_numbers list list' k (b' ≡ b) (λ a. RenewCalled b b' a)

abbrev pub PrepareAllTold : (b s t b' s' t' : List ℤ) (list list' : List ℕ) → ℕ → Type 0
PrepareAllTold b s t b' s' t' list list' k = Told answer_numbers list list' k (AllKept b s t b' s' t') (λ a. PrepareAllCalled b s t b' s' t' a)

abbrev pub RoundTold : (b s t : List ℤ) (l : ℤ) (b' s' t' : List ℤ) (list list' : List ℕ) → ℕ → Type 0
RoundTold b s t l b' s' t' list list' k = Told answer_numbers list list' k (AllKept b s t b' s' t') (λ a. RoundCalled b s t l b' s' t' a)

-- from the words of the lent entries to entries'
abbrev pub GroupTold : (b s t : List ℤ) (entries : List ℕ) (b' s' t' : List ℤ) (entries' list list' : List ℕ) → ℕ → Type 0
GroupTold b s t entries b' s' t' entries' list list' k =
    Told group_numbers list list' k (AllKept b s t b' s' t' × (entries' ≡ entries)) (λ g. GroupCalled b s t entries b' s' t' entries' g)

-- What each exported call promises.
use Rattle.std.specs.Prelude.{ℕ, ◌≡◌, Bool, List, ℤ}
use Rattle.graph.specs.Opening.{OpenCalled}
use Rattle.std.specs.Prelude.{Result}
use Rattle.refusal.specs.declared.Refusal.{Refusal}
use Rattle.dual_module.specs.Called.{DefectCalled, BlossomCalled, StateCalled, PrepareCalled, LengthCalled, GrowCalled, AdvanceCalled, ClearCalled}
use Rattle.dual_module_read.specs.Read.{VertexRead, TableRead, ContactsRead, ContactsCounted, count_told, count_in}
use Rattle.c_api.specs.Words.{answer_numbers, open_numbers, counted_numbers, Told, Kept}

-- b and t are block and scratch before, b' and t' after; `list` is lent for the answer and is list' after, with k numbers of it in front

abbrev pub OpenTold : (b t : List ℤ) (v e n l : ℕ) (edges virtuals b' : List ℤ) (list list' : List ℕ) → ℕ → Type 0
OpenTold b t v e n l edges virtuals b' list list' k = Told open_numbers list list' k (b' ≡ b) (λ j. OpenCalled b t v e n l edges virtuals b' j)

abbrev pub DefectTold : (b t : List ℤ) (v x : ℕ) (b' t' : List ℤ) (list list' : List ℕ) → ℕ → Type 0
DefectTold b t v x b' t' list list' k = Told answer_numbers list list' k (Kept b t b' t') (λ a. DefectCalled b t v x b' t' a)

abbrev pub BlossomTold : (b t : List ℤ) (x : ℕ) (circle b' t' : List ℤ) (list list' : List ℕ) → ℕ → Type 0
BlossomTold b t x circle b' t' list list' k = Told answer_numbers list list' k (Kept b t b' t') (λ a. BlossomCalled b t x circle b' t' a)

abbrev pub StateTold : (b t : List ℤ) (n x : ℕ) (b' : List ℤ) (list list' : List ℕ) → ℕ → Type 0
StateTold b t n x b' list list' k = Told answer_numbers list list' k (b' ≡ b) (λ a. StateCalled b t n x b' a)

abbrev pub PrepareTold : (b t : List ℤ) (n d : ℕ) (b' t' : List ℤ) (list list' : List ℕ) → ℕ → Type 0
PrepareTold b t n d b' t' list list' k = Told answer_numbers list list' k (Kept b t b' t') (λ a. PrepareCalled b t n d b' t' a)

abbrev pub LengthTold : (b t : List ℤ) (n d : ℕ) (first : Bool) (b' t' : List ℤ) (list list' : List ℕ) → ℕ → Type 0
LengthTold b t n d first b' t' list list' k = Told answer_numbers list list' k (Kept b t b' t') (λ a. LengthCalled b t n d first b' t' a)

abbrev pub GrowTold : (b t : List ℤ) (n : ℕ) (l : ℤ) (b' t' : List ℤ) (list list' : List ℕ) → ℕ → Type 0
GrowTold b t n l b' t' list list' k = Told answer_numbers list list' k (Kept b t b' t') (λ a. GrowCalled b t n l b' t' a)

abbrev pub AdvanceTold : (b t : List ℤ) (n : ℕ) (b' t' : List ℤ) (list list' : List ℕ) → ℕ → Type 0
AdvanceTold b t n b' t' list list' k = Told answer_numbers list list' k (Kept b t b' t') (λ a. AdvanceCalled b t n b' t' a)

abbrev pub ClearTold : (b t b' : List ℤ) (list list' : List ℕ) → ℕ → Type 0
ClearTold b t b' list list' k = Told answer_numbers list list' k (b' ≡ b) (λ a. ClearCalled b t b' a)

-- the three that only read block and scratch
abbrev pub VertexTold : (b t : List ℤ) (n : ℕ) (list list' : List ℕ) → ℕ → Type 0
VertexTold b t n list list' k = Told answer_numbers list list' k Unit (λ a. VertexRead b t n a)

-- from the words of a lent list to words'
abbrev pub TableTold : (b t words words' : List ℤ) (list list' : List ℕ) → ℕ → Type 0
TableTold b t words words' list list' k = Told answer_numbers list list' k (words' ≡ words) (λ a. TableRead b t words words' a)

abbrev pub ContactsTold : (b t words words' : List ℤ) (list list' : List ℕ) → ℕ → Type 0
ContactsTold b t words words' list list' k =
    Told counted_numbers list list' k (words' ≡ words)
    (λ (c : Result ℕ Refusal). ContactsRead b t words words' (count_told c) × ContactsCounted b t words (count_in c))

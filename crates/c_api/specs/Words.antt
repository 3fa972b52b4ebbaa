-- What an exported call tells a host: an answer as numbers at the front of a list that it lends.
use Rattle.std.specs.Prelude.{ℕ, ◌≤◌, ◌<◌, ◌≡◌, List, [], ◌∷◌, ◌++◌, ℤ, eqb, leb, length, drop, if◌then◌else◌, Result, Ok, Err}
use Rattle.answers.specs.Outcome.{Answer}
use Rattle.answers.specs.Outcome.{Done, Refused}
use Rattle.answers.specs.Answer.{is_done}
unfoldable pub use Rattle.answers.specs.Numbers.{answer_numbers}
pub use Rattle.answers.specs.Numbers.{Tells}
use Rattle.refusal.specs.declared.Refusal.{Refusal}
use Rattle.dual_module_read.specs.Read.{count_told, count_in}

-- an opening: done, or its refusal
unfoldable pub open_answer : ℕ → Answer
open_answer k = if eqb k 0 then Done else Refused k

-- told in the same numbers
abbrev pub open_numbers : ℕ → List ℕ
open_numbers k = answer_numbers (open_answer k)

-- the number of what refuses an opening, as f gives it: 0 where it is done
abbrev pub open_number_by : {R : Type 0} → (R → ℕ) → Result Unit R → ℕ
open_number_by f (Ok a) = 0
open_number_by f (Err e) = f e

-- a reading of the full edges: one that is done, case 7, tells how many they are
unfoldable pub count_numbers : Answer → ℕ → List ℕ
count_numbers a n = if is_done a then 7 ∷ n ∷ [] else answer_numbers a

-- the same of what such a reading gives back
abbrev pub counted_numbers : Result ℕ Refusal → List ℕ
counted_numbers c = count_numbers (count_told c) (count_in c)

-- an answer of which Says holds stands at the front of the list, in k numbers
pub record Saying {A : Type 0} (numbers : A → List ℕ) (list list' : List ℕ) (k : ℕ) (Says : A → Type 0) : Type 0 where
  pub answer : A
  pub says : Says answer
  pub tells : Tells (numbers answer) list list' k

-- A list of fewer than five words, which has no room for every answer: refused 1, as every lent list of a wrong length, if it has
-- room for that; one of no word or one word is left.
unfoldable pub short_list : List ℕ → List ℕ
short_list list = if leb 2 (length list) then answer_numbers (Refused 1) ++ drop 2 list else list

-- how many numbers are told there
unfoldable pub short_count : List ℕ → ℕ
short_count list = if leb 2 (length list) then 2 else 0

-- What an exported call promises that gives back k. A list of five words or more: the call was made, and what it answers is told there.
-- A shorter one: nothing was called; by Still all else that the call may write is as it was.
pub record Told {A : Type 0} (numbers : A → List ℕ) (list list' : List ℕ) (k : ℕ) (Still : Type 0) (Says : A → Type 0) : Type 0 where
  pub short : length list < 5 → (k ≡ short_count list) × (list' ≡ short_list list) × Still
  pub told : 5 ≤ length list → Saying numbers list list' k Says

-- block and scratch are as they were
abbrev pub Kept : List ℤ → List ℤ → List ℤ → List ℤ → Type 0
Kept b t b' t' = (b' ≡ b) × (t' ≡ t)

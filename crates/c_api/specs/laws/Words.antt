-- What an exported call promises, where its list is too short and where it is not.
use Rattle.std.specs.Prelude.{ℕ, ◌≤◌, ◌<◌, ◌≡◌, refl, List, length, Result, Ok, Err}
use Rattle.std.proofs.Common.{not-le_of_lt}
pub use Rattle.answers.specs.laws.Numbers.{tells_as, answer-short}
use Rattle.refusal.specs.declared.Refusal.{Refusal}
use Rattle.refusal.specs.Refusal.{number, refusal_number}
use Rattle.c_api.specs.Words.{Tells, open_number_by, short_list, short_count, Told}

-- that of a refusal
pub open-number : (opened : Result Unit Refusal) → open_number_by number opened ≡ refusal_number opened
open-number (Ok a) = refl
open-number (Err e) = refl

-- ---- an exported call

module _ {A : Type 0} {numbers : A → List ℕ} {list : List ℕ} {Still : Type 0} {Says : A → Type 0} where
  -- no room for an answer
  pub told-short : {list' : List ℕ} {k : ℕ} → length list < 5 → (k ≡ short_count list) × (list' ≡ short_list list) → Still → Told numbers list list' k Still Says
  told-short h e s = record { short = λ q. (e.0, e.1, s); told = λ q. absurd (not-le_of_lt h q) }

  -- room, and the answer told
  pub told-all : {list' : List ℕ} {k : ℕ} → 5 ≤ length list → (a : A) → Says a → Tells (numbers a) list list' k → Told numbers list list' k Still Says
  told-all h a s t = record { short = λ q. absurd (not-le_of_lt q h); told = λ q. record { answer = a; says = s; tells = t } }

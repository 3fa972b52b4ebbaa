-- A list of calls while it is made: what is known of the memory, what one call leaves, and what is left to do.
use Rattle.std.specs.Prelude.{ℕ, ◌+◌, ◌*◌, ◌≤◌, ◌≡◌, ◌≢◌, Bool, true, List, ◌∷◌, ◌++◌, ℤ, eqb, length, take, drop, if◌then◌else◌}
use Rattle.graph.specs.Layout.{state_of, memory_refusal}
use Rattle.dual_module.specs.inner.Known.{KnownZero}
use Rattle.c_api_calls.specs.ListCall.{ListCall}
use Rattle.c_api_calls.specs.Told.{OneTold, ListedSteps}
use Rattle.c_api_calls.specs.Tests.{keeps, leaves, tests_from, tests_in}

-- memory that has passed its tests
pub record Passed (b t : List ℤ) (zero : Bool) : Type 0 where
  pub accepted : memory_refusal b t ≡ 0
  pub cleared : KnownZero zero t

-- a call was made: what its export promises, whether the block is certainly sound, and whether the scratch is known to be all zero
pub record CallDone (b t : List ℤ) (c : ListCall) (b' t' : List ℤ) (part part' : List ℕ) (kept zero : Bool) : Type 0 where
  pub told : OneTold b t c b' t' part part'
  pub kept-is : kept ≡ keeps (state_of b) c
  pub cleared : KnownZero zero t'

-- what is known between two calls: the block is sound where `known` says so, memory is refused by `refusal` where that is not 0
pub record Between (b t : List ℤ) (refusal : ℕ) (known zero : Bool) : Type 0 where
  pub sounds : known ≡ true → memory_refusal b t ≡ 0
  pub refused : refusal ≢ 0 → memory_refusal b t ≡ refusal
  pub cleared : KnownZero zero t

-- the tests that are still to be made for the calls cs
unfoldable pub tests_left : List ℤ → List ℤ → ℕ → Bool → List ListCall → ℕ
tests_left b t refusal known cs = if eqb refusal 0 then (if known then tests_from true (state_of b) cs else tests_in b t cs) else 0

-- from `tests`, `refusal` and `known` to tests', refusal' and known': memory was tested, unless it was known
pub record Tested (b t : List ℤ) (tests refusal : ℕ) (known : Bool) (tests' refusal' : ℕ) (known' : Bool) : Type 0 where
  pub sounds : refusal' ≡ 0 → memory_refusal b t ≡ 0
  pub refused : refusal' ≢ 0 → memory_refusal b t ≡ refusal'
  pub known_is : known' ≡ eqb refusal' 0
  pub more : tests' ≤ tests + 1
  pub tests-are : (c : ListCall) (cs : List ListCall)
      → tests + tests_left b t refusal known (c ∷ cs)
      ≡ tests' + (if eqb refusal' 0 then tests_from (keeps (state_of b) c) (leaves (state_of b) c) cs else 0)

-- the call c was made, or refused with all calls behind it
pub record CallStepped (b t : List ℤ) (c : ListCall) (b' t' : List ℤ) (part part' : List ℕ) (tests refusal : ℕ)
    (known : Bool) (tests' refusal' : ℕ) (known' zero' : Bool) : Type 0 where
  pub told : OneTold b t c b' t' part part'
  pub between : Between b' t' refusal' known' zero'
  pub tests-are : (cs : List ListCall) → tests + tests_left b t refusal known (c ∷ cs) ≡ tests' + tests_left b' t' refusal' known' cs

-- the five numbers of a list from place n on become others
abbrev pub with_part : List ℕ → ℕ → List ℕ → List ℕ
with_part list n part = take n list ++ (part ++ drop (n + 5) list)

-- call number i of a list was made, its answer in the five numbers from 5 i on
pub record CallSteppedAt (b t : List ℤ) (c : ListCall) (b' t' : List ℤ) (i : ℕ) (answers answers' : List ℕ)
    (tests refusal : ℕ) (known : Bool) (tests' refusal' : ℕ) (known' zero' : Bool) : Type 0 where
  pub part : List ℕ
  pub five : length part ≡ 5
  pub answers-are : answers' ≡ with_part answers (5 * i) part
  pub stepped : CallStepped b t c b' t' (take 5 (drop (5 * i) answers)) part tests refusal known tests' refusal' known' zero'

-- i of the calls cs were made, from block b₀, scratch t₀ and the list answers₀ on
pub record Running (b₀ t₀ : List ℤ) (cs : List ListCall) (answers₀ : List ℕ) (b t : List ℤ) (answers : List ℕ)
    (i tests refusal : ℕ) (known zero : Bool) : Type 0 where
  pub within : i ≤ length cs
  pub steps : ListedSteps b₀ t₀ (take i cs) answers₀ b t answers
  pub between : Between b t refusal known zero
  pub tests-are : tests + tests_left b t refusal known (drop i cs) ≡ tests_in b₀ t₀ cs
  pub few : tests ≤ i

-- all of them
pub record Ran (b t : List ℤ) (cs : List ListCall) (answers : List ℕ) (b' t' : List ℤ) (answers' : List ℕ) (made tests : ℕ) : Type 0 where
  pub steps : ListedSteps b t cs answers b' t' answers'
  pub made-is : made ≡ length cs
  pub tests-are : tests ≡ tests_in b t cs

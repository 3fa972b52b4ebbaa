-- What `fb_calls` promises: what the exported calls would, one after another, each with five numbers of the list for its answer.
use Rattle.std.specs.Prelude.{ℕ, ◌/◌, ◌%◌, min, ◌≡◌, ◌≢◌, List, [], ◌∷◌, ◌++◌, ℤ, eqb, length, if◌then◌else◌}
use Rattle.graph.specs.Layout.{memory_refusal}
use Rattle.answers.specs.Outcome.{Refused as RefusedCall}
use Rattle.answers.specs.Numbers.{OnPaper}
use Rattle.c_api.specs.Words.{answer_numbers, Told, Kept}
use Rattle.c_api.specs.Told.{DefectTold, BlossomTold, StateTold, PrepareTold, LengthTold, GrowTold, AdvanceTold, ClearTold, VertexTold}
use Rattle.c_api_node.specs.Told.{ReadNodeTold}
use Rattle.c_api_gap.specs.Told.{GapTold}
use Rattle.c_api_calls.specs.Outcome.{CallsAnswer}
use Rattle.c_api_calls.specs.Outcome.{Made, Refused}
use Rattle.c_api_calls.specs.ListCall.{ListCall, list_defect, list_blossom, list_state, list_prepare, list_length, list_grow, list_advance, list_clear, list_vertex, list_node, list_gap, list_other, list_calls}
use Rattle.c_api_calls.specs.Tests.{tests_in}

-- ---- one call

-- no call: refused 3, where memory is not refused
unfoldable pub other_refusal : List ℤ → List ℤ → ℕ
other_refusal b t = if eqb (memory_refusal b t) 0 then 3 else memory_refusal b t

-- what the exported call of that name promises; one that only reads leaves block and scratch
unfoldable pub ListedTold : List ℤ → List ℤ → ListCall → List ℤ → List ℤ → List ℕ → List ℕ → ℕ → Type 0
ListedTold b t (list_defect v x) b' t' list list' k = DefectTold b t v x b' t' list list' k
ListedTold b t (list_blossom x circle) b' t' list list' k = BlossomTold b t x circle b' t' list list' k
ListedTold b t (list_state n x) b' t' list list' k = StateTold b t n x b' list list' k × (t' ≡ t)
ListedTold b t (list_prepare n d) b' t' list list' k = PrepareTold b t n d b' t' list list' k
ListedTold b t (list_length n d first) b' t' list list' k = LengthTold b t n d first b' t' list list' k
ListedTold b t (list_grow n l) b' t' list list' k = GrowTold b t n l b' t' list list' k
ListedTold b t (list_advance n) b' t' list list' k = AdvanceTold b t n b' t' list list' k
ListedTold b t list_clear b' t' list list' k = ClearTold b t b' list list' k × (t' ≡ t)
ListedTold b t (list_vertex n) b' t' list list' k = VertexTold b t n list list' k × Kept b t b' t'
ListedTold b t (list_node n) b' t' list list' k = ReadNodeTold b t n list list' k × Kept b t b' t'
ListedTold b t (list_gap e) b' t' list list' k = GapTold b t e list list' k × Kept b t b' t'
ListedTold b t list_other b' t' list list' k =
    Told answer_numbers list list' k Unit (λ a. OnPaper a (RefusedCall (other_refusal b t))) × Kept b t b' t'

-- so with some number of numbers told
pub record OneTold (b t : List ℤ) (c : ListCall) (b' t' : List ℤ) (list list' : List ℕ) : Type 0 where
  pub count : ℕ
  pub promise : ListedTold b t c b' t' list list' count

-- ---- one after another

-- from block b and scratch t the calls lead to b' and t', each with the next five numbers of the list for its answer; the rest of it is left
pub data ListedSteps : List ℤ → List ℤ → List ListCall → List ℕ → List ℤ → List ℤ → List ℕ → Type 0 where
  no_call : {b t : List ℤ} {list : List ℕ} → ListedSteps b t [] list b t list
  next-call : {b t b₁ t₁ b₂ t₂ : List ℤ} {c : ListCall} {cs : List ListCall} {part part' rest rest' : List ℕ} → length part ≡ 5
      → length part' ≡ 5 → OneTold b t c b₁ t₁ part part' → ListedSteps b₁ t₁ cs rest b₂ t₂ rest'
      → ListedSteps b t (c ∷ cs) (part ++ rest) b₂ t₂ (part' ++ rest')

-- ---- the list of calls

-- how many are made: those that are there and have room for their answer
unfoldable pub call_count : List ℤ → List ℕ → ℕ
call_count words answers = min (length words / 4) (length answers / 5)

-- words that are no calls of four are refused 1, and nothing is called; else the calls are made, and memory is tested as often as is told
pub record CallsMade (b t words circles : List ℤ) (answers : List ℕ) (b' t' : List ℤ) (answers' : List ℕ) (r : CallsAnswer) : Type 0 where
  pub refused : length words % 4 ≢ 0 → (r ≡ Refused 1) × Kept b t b' t' × (answers' ≡ answers)
  pub steps : length words % 4 ≡ 0 → ListedSteps b t (list_calls circles words (call_count words answers)) answers b' t' answers'
  pub counted : length words % 4 ≡ 0
      → r ≡ Made (call_count words answers) (tests_in b t (list_calls circles words (call_count words answers)))

-- case 20 with the number of calls made and of tests
unfoldable pub calls_numbers : CallsAnswer → List ℕ
calls_numbers (Made m k) = 20 ∷ m ∷ k ∷ []
calls_numbers (Refused k) = answer_numbers (RefusedCall k)

-- `list` is lent for the answer of fb_calls itself
abbrev pub CallsTold : (b t words circles : List ℤ) (answers : List ℕ) (b' t' : List ℤ) (answers' list list' : List ℕ) → ℕ → Type 0
CallsTold b t words circles answers b' t' answers' list list' k =
    Told calls_numbers list list' k (Kept b t b' t' × (answers' ≡ answers)) (λ r. CallsMade b t words circles answers b' t' answers' r)

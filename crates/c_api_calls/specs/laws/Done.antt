-- A call that was made, kind by kind: what its export promises, and what is known after it.
use Rattle.std.specs.Prelude.{ℕ, ◌≡◌, Bool, true, List, ℤ, length}
use Rattle.std.proofs.Common.{arith, sym, ◌∙◌}
use Rattle.std.proofs.Math.Path.{refl}
use Rattle.graph.specs.Layout.{state_of, memory_refusal}
use Rattle.answers.specs.Outcome.{Refused}
use Rattle.answers.specs.Numbers.{answer_numbers, Tells}
use Rattle.c_api.specs.laws.Words.{told-all}
use Rattle.dual_module.specs.inner.Known.{KnownZero}
use Rattle.c_api_calls.specs.ListCall.{ListCall, list_other}
use Rattle.c_api_calls.specs.Told.{other_refusal, ListedTold}
use Rattle.c_api_calls.specs.Tests.{keeps}
use Rattle.c_api_calls.specs.inner.Running.{CallDone}

module _ {b t b' t' : List ℤ} {part part' : List ℕ} {kept zero kept' zero' : Bool} where
  -- what is known is handed on
  pub call-done : (c : ListCall) (k : ℕ) → ListedTold b t c b' t' part part' k → kept ≡ keeps (state_of b) c → KnownZero zero t'
      → kept' ≡ kept → zero' ≡ zero → CallDone b t c b' t' part part' kept' zero'
  call-done c k p q z e f = record { told = record { count = k; promise = p }; kept-is = e ∙ q; cleared = λ h. z (sym f ∙ h) }

-- no call
module _ {b t : List ℤ} {part part' : List ℕ} {kept zero zero' : Bool} where
  pub other-done : memory_refusal b t ≡ 0 → length part ≡ 5 → Tells (answer_numbers (Refused 3)) part part' 2 → kept ≡ true → zero' ≡ zero
      → KnownZero zero t → CallDone b t list_other b t part part' kept zero'
  unfolding ListedTold other_refusal keeps
  other-done e l p h f z =
      call-done list_other 2 (told-all (omega arith) (Refused 3) (rw e refl) p, (refl, refl)) refl z h f

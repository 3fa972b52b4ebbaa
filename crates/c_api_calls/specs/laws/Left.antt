-- What is known of memory after a call, and the tests that are left then.
use Rattle.std.specs.Prelude.{ℕ, ◌+◌, ◌≤◌, ◌≡◌, ◌≢◌, Bool, true, false, ◌||◌, not, ℤ, eqb, length, if◌then◌else◌}
use Rattle.std.proofs.Common.{arith, ap, subst, ◌∙◌, eq-eqb, ne_eqb, eqb-true}
use Rattle.std.proofs.Math.Path.{refl, sym}
use mathlib.Core.List.{List, [], ◌∷◌}
use Rattle.std.proofs.lemmas.Bool.{eqb-false, not-false}
use Rattle.graph.specs.State.{vertex_count, edge_count}
use Rattle.graph.specs.Sound.{state_sound}
use Rattle.graph.specs.Layout.{state_of, scratch_size, sized, block_sound, memory_fits, block_refusal, memory_refusal}
use Rattle.graph.specs.Form.{Formed}
use Rattle.graph.specs.laws.Form.{formed-shape, formed-vertices}
use Rattle.graph.specs.laws.Members.{by-test, clash, or_cases, or-neither-left, or-neither-right}
use Rattle.memory_tests.specs.laws.Block.{block-state-sound}
use Rattle.memory_tests.specs.laws.Memory.{Lendable, memory-accepted, fits-sized}
use Rattle.memory_tests.specs.laws.Whole.{formed-sized, memory-by-length}
use Rattle.answers.specs.Outcome.{Refused}
use Rattle.answers.specs.Numbers.{answer_numbers, Tells}
use Rattle.table_theorem.proofs.laws.Kept.{Wiring, wiring_of, calls-wired}
use Rattle.soundness_theorem.specs.KeptSound.{KeptSound}
use Rattle.dual_module.specs.inner.Known.{KnownZero}
use Rattle.c_api_calls.specs.ListCall.{ListCall}
use Rattle.c_api_calls.specs.Tests.{keeps, leaves, tests_from, tests_in}
use Rattle.c_api_calls.specs.inner.Running.{CallDone, Between, tests_left, Tested, CallStepped}
use Rattle.c_api_calls.specs.laws.Leaves.{Leaves, told-leaves, as_calls, leaves_after, keeps-sound}
use Rattle.c_api_calls.specs.laws.Refused.{refused-told}

-- ---- memory that is accepted holds a sound state, and memory in form that does is accepted

module _ (b t : List ℤ) where
  two-tests : (f s : Bool) → ◌≡◌ {A = ℕ} (if f then (if s then 0 else 2) else 1) 0 → (f ≡ true) × (s ≡ true)
  two-tests true true h = (refl, refl)
  two-tests true false h = absurd (omega arith)
  two-tests false s h = absurd (omega arith)

  accepted-sounds : memory_refusal b t ≡ 0 → state_sound (state_of b) ≡ true
  unfolding memory_refusal block_refusal
  accepted-sounds h = let p = two-tests (memory_fits b t) (block_sound b) h in block-state-sound b (fits-sized b t p.0) p.1

  formed-accepted : Formed b → length t ≡ scratch_size (state_of b) → state_sound (state_of b) ≡ true → memory_refusal b t ≡ 0
  formed-accepted f l s = memory-by-length b t f s ∙ rw (eq-eqb (length t) (scratch_size (state_of b)) l) refl

  accepted-is : Formed b → length t ≡ scratch_size (state_of b) → eqb (memory_refusal b t) 0 ≡ state_sound (state_of b)
  accepted-is f l =
      by-test (state_sound (state_of b)) (λ s. rw (formed-accepted f l s) (sym s))
      (λ s. ne_eqb (memory_refusal b t) 0 (λ e. clash (state_sound (state_of b)) (accepted-sounds e) s) ∙ sym s)

-- ---- after a call on accepted memory

module _ {b t b' t' : List ℤ} {c : ListCall} (e : memory_refusal b t ≡ 0) (p : Leaves b t c b' t') where
  wired : wiring_of (state_of b') ≡ wiring_of (state_of b)
  wired = ap wiring_of (p.state ∙ leaves_after (state_of b) c) ∙ calls-wired (state_of b) (as_calls c)

  size-after : length t' ≡ scratch_size (state_of b')
  size-after =
      let l : Lendable b t = memory-accepted b t e in
      let v : vertex_count (state_of b') ≡ vertex_count (state_of b) = ap (λ (x : Wiring). length x.virtual) wired in
      let o : edge_count (state_of b') ≡ edge_count (state_of b) =
      sym (formed-shape b' p.formed).original ∙ ap (λ (x : Wiring). length x.original) wired ∙ (formed-shape b l.formed).original in
      p.scratch ∙ l.size ∙ rw (v, o) refl

  kept-accepted : keeps (state_of b) c ≡ true → memory_refusal b' t' ≡ 0
  kept-accepted k =
      let f : Formed b = (memory-accepted b t e).formed in
      let s : KeptSound (state_of b) (leaves (state_of b) c) =
      keeps-sound (state_of b) (formed-shape b f) (formed-vertices b f) (accepted-sounds b t e) c k in
      formed-accepted b' t' p.formed size-after (ap state_sound p.state ∙ s.sounds)

  tests-again : (cs : List ListCall) → tests_from false (state_of b') cs ≡ tests_in b' t' cs
  unfolding tests_from tests_in
  tests-again [] = refl
  tests-again (x ∷ cs) = rw (accepted-is b' t' p.formed size-after)

  tests-after : (cs : List ListCall)
      → tests_from (keeps (state_of b) c) (leaves (state_of b) c) cs ≡ tests_left b' t' 0 (keeps (state_of b) c) cs
  unfolding tests_left
  tests-after cs =
      rw (← p.state)
      (by-test (keeps (state_of b) c) (λ k. rw k) (λ k. rw k (tests-again cs)))

-- ---- one call more

module _ {b t b' t' : List ℤ} {c : ListCall} {part part' : List ℕ} {tests refusal tests' : ℕ} {known : Bool} (r : 5 ≤ length part) where
  -- made, on memory that passed its tests
  pub made-steps : {kept known' zero : Bool} → Tested b t tests refusal known tests' 0 known' → CallDone b t c b' t' part part' kept zero
      → CallStepped b t c b' t' part part' tests refusal known tests' 0 kept zero
  made-steps {kept} q d =
      let e : memory_refusal b t ≡ 0 = q.sounds refl in
      let l : Leaves b t c b' t' = told-leaves e r d.told in
      record {
        told = d.told;
        between =
            record {
              sounds = λ k. kept-accepted e l (sym d.kept-is ∙ k);
              refused = λ z. absurd (z refl);
              cleared = d.cleared;
            };
        tests-are = λ cs. q.tests-are c cs ∙ rw (tests-after e l cs, ← d.kept-is) refl;
      }

-- refused, with all calls behind it
module _ {b t : List ℤ} {c : ListCall} {part part' : List ℕ} {tests refusal tests' j k : ℕ} {known : Bool} (r : 5 ≤ length part) where
  pub refused-steps : {known' zero : Bool} → j ≢ 0 → Tested b t tests refusal known tests' j known' → KnownZero zero t
      → Tells (answer_numbers (Refused j)) part part' k
      → CallStepped b t c b t part part' tests refusal known tests' j known' zero
  unfolding tests_left
  refused-steps {known'} {zero} h q z p = record {
    told = refused-told b t (sym (q.refused h)) h r p c;
    between =
        record {
          sounds = λ x. absurd (h (eqb-true j 0 (sym q.known_is ∙ x)));
          refused = λ x. q.refused h;
          cleared = z;
        };
    tests-are = λ cs. q.tests-are c cs ∙ rw (ne_eqb j 0 h) refl;
  }

-- ---- the test

module _ {b t : List ℤ} {tests refusal : ℕ} {known zero : Bool} (q : Between b t refusal known zero) where
  -- memory is known
  pub known-tested : known ≡ true → refusal ≡ 0 → Tested b t tests refusal known tests refusal known
  unfolding tests_left tests_from
  known-tested k z = record {
    sounds = λ e. q.sounds k;
    refused = λ e. q.refused e;
    known_is = k ∙ rw (eq-eqb refusal 0 z) refl;
    more = omega arith;
    tests-are = λ c cs. rw (eq-eqb refusal 0 z, k) refl;
  }

  -- it is refused
  pub refused-tested : refusal ≢ 0 → Tested b t tests refusal known tests refusal known
  unfolding tests_left
  refused-tested h = record {
    sounds = λ e. absurd (h e);
    refused = q.refused;
    known_is = by-test known (λ k. absurd (h (sym (q.refused h) ∙ q.sounds k))) (λ k. k ∙ rw (ne_eqb refusal 0 h) refl);
    more = omega arith;
    tests-are = λ c cs. rw (ne_eqb refusal 0 h) refl;
  }

  -- it is tested
  pub newly-tested : {j : ℕ} → known ≡ false → refusal ≡ 0 → j ≡ memory_refusal b t → Tested b t tests refusal known (tests + 1) j (eqb j 0)
  unfolding tests_left tests_in
  newly-tested {j} k z e = record {
    sounds = λ h. sym e ∙ h;
    refused = λ h. sym e;
    known_is = refl;
    more = omega arith;
    tests-are = λ c cs. rw (eq-eqb refusal 0 z, k, ← e) (omega arith);
  }

  -- nothing is tested where something is known
  pub still-tested : known || not (eqb refusal 0) ≡ true → Tested b t tests refusal known tests refusal known
  still-tested h =
      by-test (eqb refusal 0)
      (λ e. known-tested (or_cases known (not (eqb refusal 0)) h (λ k. k) (λ k. clash (not (eqb refusal 0)) k (rw e refl))) (eqb-true refusal 0 e))
      (λ e. refused-tested (eqb-false refusal 0 e))

  pub again-tested : {j : ℕ} → known || not (eqb refusal 0) ≡ false → j ≡ memory_refusal b t → Tested b t tests refusal known (tests + 1) j (eqb j 0)
  again-tested h e =
      newly-tested (or-neither-left known (not (eqb refusal 0)) h)
      (eqb-true refusal 0 (not-false (eqb refusal 0) (or-neither-right known (not (eqb refusal 0)) h))) e

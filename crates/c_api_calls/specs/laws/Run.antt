-- The calls of a list, one after another.
use Rattle.std.specs.Prelude.{ℕ, zero, suc, ◌+◌, ◌-◌, ◌*◌, ◌≤◌, ◌<◌, ◌%◌, min, ◌≡◌, ◌≢◌, Bool, false, List, [], ◌∷◌, ◌++◌, map, ℤ, length, take, drop, get_or, eqb, if◌then◌else◌}
use Rattle.std.proofs.Common.{arith, add-one, sym, subst, ◌∙◌, length-take, length-drop, drop_of_length-le, take-suc, drop-cons, drop-drop, take_all}
use Rattle.std.proofs.Math.Path.{refl, ap}
use Rattle.std.proofs.Math.Bool.{true}
use Rattle.std.proofs.Math.ListN.{length-map}
use Rattle.graph.specs.Basic.{below}
use Rattle.graph.specs.laws.State.{if-both}
use Rattle.graph.specs.laws.Members.{clash, length-below}
use Rattle.graph.specs.laws.Opened.{get_d-below}
use Rattle.c_api_calls.specs.Outcome.{Made, Refused}
use Rattle.c_api_calls.specs.ListCall.{ListCall, list_other, list_call_of, list_call_at, list_calls}
use Rattle.c_api_calls.specs.Told.{ListedSteps, no_call, call_count, CallsMade}
use Rattle.c_api_calls.specs.Tests.{tests_from, tests_in}
use Rattle.c_api_calls.specs.inner.Running.{Between, tests_left, CallStepped, with_part, CallSteppedAt, Running, Ran}
use Rattle.c_api_calls.specs.laws.Steps.{steps-more}

-- ---- the calls by number

map_at : {A B : Type 0} (f : A → B) (l : List A) (i : ℕ) (a : A) (d : B) → i < length l → get_or (map f l) i d ≡ f (get_or l i a)
map_at f [] i a d h = absurd (omega arith)
map_at f (x ∷ l) zero a d h = refl
map_at f (x ∷ l) (suc i) a d h = map_at f l i a d (omega arith)

module _ (circles words : List ℤ) (n : ℕ) where
  pub calls-length : length (list_calls circles words n) ≡ n
  unfolding list_calls
  calls-length = length-map (below n) (list_call_at circles words) ∙ length-below n

  pub calls_at : (i : ℕ) → i < n → get_or (list_calls circles words n) i list_other ≡ list_call_at circles words i
  unfolding list_calls
  calls_at i h =
      map_at (list_call_at circles words) (below n) i 0 list_other (omega (arith, length-below n, h))
      ∙ ap (list_call_at circles words) (get_d-below n i 0 h)

-- ---- one of them

-- a part of a list that ends within it
pub part_length : {A : Type 0} (l : List A) (n k : ℕ) → n + k ≤ length l → length (take (n + k - n) (drop n l)) ≡ k
part_length l n k h = omega (arith, length-take (n + k - n) (drop n l), length-drop n l, h)

-- call number i by its own words
pub stepped-at : {b t b' t' : List ℤ} {answers part : List ℕ} {tests refusal tests' refusal' : ℕ} {known known' zero' : Bool} (words circles : List ℤ) (i : ℕ)
    → length part ≡ 5
    → CallStepped b t (list_call_of circles (take (4 * i + 4 - 4 * i) (drop (4 * i) words))) b' t' (take (5 * i + 5 - 5 * i) (drop (5 * i) answers)) part
    tests refusal known tests' refusal' known' zero'
    → CallSteppedAt b t (list_call_at circles words i) b' t' i answers (take (5 * i) answers ++ (part ++ drop (5 * i + 5 - 5 * i) (drop (5 * i) answers)))
    tests refusal known tests' refusal' known' zero'
unfolding list_call_at
stepped-at {answers = answers} {part = part} words circles i h p =
    let e : 4 * i + 4 - 4 * i ≡ 4 = omega arith in
    let f : 5 * i + 5 - 5 * i ≡ 5 = omega arith in
    record { part = part; five = h; answers-are = rw (f, drop-drop 5 (5 * i) answers) refl; stepped = rw (e, f) at p }

-- a call that is made is there, and has room for its answer
pub count-below : (words : List ℤ) (answers : List ℕ) {m i : ℕ} → m ≡ call_count words answers → i < m
    → (4 * i + 4 ≤ length words) × (5 * i + 5 ≤ length answers)
unfolding call_count
count-below words answers e h = (omega (arith, e, h), omega (arith, e, h))

-- ---- from none to all

none_left : (b t : List ℤ) (refusal : ℕ) (known : Bool) → tests_left b t refusal known [] ≡ 0
unfolding tests_left tests_from tests_in
none_left b t refusal known = if-both (λ x. x ≡ 0) (eqb refusal 0) (if-both (λ x. x ≡ 0) known refl refl) refl

module _ (b₀ t₀ : List ℤ) (cs : List ListCall) (answers₀ : List ℕ) where
  pub running_none : Running b₀ t₀ cs answers₀ b₀ t₀ answers₀ 0 0 0 false false
  unfolding tests_left
  running_none = record {
    within = omega arith;
    steps = no_call;
    between = record { sounds = λ e. clash true refl (sym e); refused = λ e. absurd (e refl); cleared = λ e. clash true refl (sym e) };
    tests-are = omega arith;
    few = omega arith;
  }

  module _ {b t : List ℤ} {answers : List ℕ} {i tests refusal : ℕ} {known zero : Bool}
      (q : Running b₀ t₀ cs answers₀ b t answers i tests refusal known zero) where
    pub running_more : {b' t' : List ℤ} {answers' : List ℕ} {tests' refusal' : ℕ} {known' zero' : Bool} → i < length cs
        → 5 * i + 5 ≤ length answers₀ → tests' ≤ i + 1
        → CallSteppedAt b t (get_or cs i list_other) b' t' i answers answers' tests refusal known tests' refusal' known' zero'
        → Running b₀ t₀ cs answers₀ b' t' answers' (i + 1) tests' refusal' known' zero'
    running_more h r few p =
        let s = p.stepped in
        let n : length (take i cs) ≡ i = omega (arith, length-take i cs, q.within) in
        let a : take (i + 1) cs ≡ take i cs ++ (get_or cs i list_other ∷ []) = rw (add-one) (take-suc cs i list_other h) in
        let d : drop i cs ≡ get_or cs i list_other ∷ drop (i + 1) cs = rw (add-one) (drop-cons cs i list_other h) in
        record {
          within = omega arith;
          steps = rw (a, p.answers-are) (steps-more p.five (5 * i) (ap (λ x. 5 * x) (sym n)) r q.steps s.told);
          between = s.between;
          tests-are = sym (s.tests-are (drop (i + 1) cs)) ∙ rw d at q.tests-are;
          few = few;
        }

    pub running-all : length cs ≤ i → Ran b₀ t₀ cs answers₀ b t answers i tests
    running-all h = record {
      steps = rw (take_all i cs h) at q.steps;
      made-is = omega (arith, q.within, h);
      tests-are = omega (arith, none_left b t refusal known, rw (drop_of_length-le cs h) at q.tests-are);
    }

-- ---- what the list answers

module _ {b t words circles : List ℤ} {answers : List ℕ} where
  pub made_none : length words % 4 ≢ 0 → CallsMade b t words circles answers b t answers (Refused 1)
  made_none h = record { refused = λ _. (refl, (refl, refl), refl); steps = λ e. absurd (h e); counted = λ e. absurd (h e) }

  pub made_all : {b' t' : List ℤ} {answers' : List ℕ} {made tests : ℕ} → length words % 4 ≡ 0
      → Ran b t (list_calls circles words (call_count words answers)) answers b' t' answers' made tests
      → CallsMade b t words circles answers b' t' answers' (Made made tests)
  made_all h p = record {
    refused = λ e. absurd (e h);
    steps = λ _. p.steps;
    counted = λ _. rw (p.made-is, calls-length circles words (call_count words answers), p.tests-are) refl;
  }

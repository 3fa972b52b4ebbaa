-- A preparation for shrinking in memory, with its test: pass after pass, until none is called for.
use Rattle.std.specs.Prelude.{ℕ, zero, suc, ◌+◌, ◌<◌, ◌≡◌, ◌≢◌, Bool, true, false, ◌&&◌, ◌||◌, not, List, ℤ, eqb, length}
use Rattle.std.proofs.Common.{arith, ◌∙◌, ne_eqb}
use Rattle.std.proofs.Math.Path.{refl, sym, ap}
use Rattle.std.proofs.Math.Bool.{and_assoc, and-false}
use Rattle.graph.specs.State.{State, vertex_count, up, down}
use Rattle.graph.specs.Layout.{state_of}
use Rattle.graph.specs.laws.Form.{laid-shape}
use Rattle.graph.specs.laws.Members.{by-test, clash}
use Rattle.graph.specs.laws.State.{and_left}
use Rattle.pass.specs.Work.{Work, finish_pass}
use Rattle.pass.specs.Prepare.{Prepared, one_pass, prepare_from, prepare_node}
use Rattle.pass.specs.inner.Ends.{EndsIn}
use Rattle.pass.specs.KeepsSound.{pass_own, passes_own, holds_lists, keeps_sound}
use Rattle.pass.specs.inner.Ready.{Ready, Preparable, AfterPass}
use Rattle.pass.proofs.laws.Prepare.{pass_state, one_down, one-passed, prepare-more, prepare-last, left, left_le, ends-passed, pass-falls}
use Rattle.pass.proofs.laws.KeepsSound.{passes-more, passes-last}
use Rattle.pass.proofs.laws.Preparing.{formed-ends, Preparing, preparing-none, preparing-more}

-- more fuel than is needed changes nothing
passes-fuel : (f g : ℕ) (c : State) (n : ℕ) → EndsIn c → left down c < f → left down c < g → passes_own f c n ≡ passes_own g c n
passes-fuel zero g c n ends hf hg = absurd (omega arith)
passes-fuel (suc f) zero c n ends hf hg = absurd (omega arith)
passes-fuel (suc f) (suc g) c n ends hf hg =
    by-test (one_pass c n down).another
    (λ e.
    let falls : left down (pass_state c n down) < left down c = pass-falls c n down ends e in
    passes-more n f c e
    ∙ ap (λ t. pass_own c n && t)
    (passes-fuel f g (pass_state c n down) n (ends-passed n c (pass_state c n down) (one-passed c n down) ends)
    (omega arith) (omega arith))
    ∙ sym (passes-more n g c e))
    (λ e. passes-last n f c e ∙ sym (passes-last n g c e))

-- ---- the loop

-- k passes are made and tested; what remains gives the whole
pub record Testing (b₀ b t₀ t : List ℤ) (n k : ℕ) (more own : Bool) : Type 0 where
  pub prepares : Preparing b₀ b t₀ t n down k more
  pub goes : more ≡ true
      → own && passes_own (suc (left down (state_of b))) (state_of b) n ≡ passes_own (suc (vertex_count (state_of b₀))) (state_of b₀) n
  pub ends : more ≡ false → own ≡ passes_own (suc (vertex_count (state_of b₀))) (state_of b₀) n

pub testing-none : (b t : List ℤ) (n : ℕ) → Ready b t n → Preparable (state_of b) n down → Testing b b t t n 0 true true
testing-none b t n q g =
    let l : length (state_of b).vertices.vertex_holder ≡ vertex_count (state_of b) = (laid-shape b q.formed.laid).vertex_holder in
    record {
      prepares = preparing-none b t n down q g;
      goes = λ e.
          passes-fuel (suc (left down (state_of b))) (suc (vertex_count (state_of b))) (state_of b) n (formed-ends b q.formed)
          (omega arith) (omega (arith, left_le down (state_of b), l));
      ends = λ e. clash true refl e;
    }

module _ {b₀ b b' t₀ t t' : List ℤ} {n k : ℕ} {own fine r : Bool} (p : Testing b₀ b t₀ t n k true own)
    (f : fine ≡ pass_own (state_of b) n) (a : AfterPass b b' t t' n (one_pass (state_of b) n down) r) where
  now-is : state_of b' ≡ pass_state (state_of b) n down
  now-is = a.block.state

  next : Preparing b₀ b' t₀ t' n down (k + 1) r
  next = preparing-more p.prepares a

  pub testing-more : Testing b₀ b' t₀ t' n (k + 1) r (own && fine)
  testing-more = record {
    prepares = next;
    goes = λ e.
        let called : (one_pass (state_of b) n down).another ≡ true = sym a.another ∙ e in
        let falls : left down (state_of b') < left down (state_of b) =
        rw now-is (pass-falls (state_of b) n down (formed-ends b p.prepares.ready.formed) called) in
        and_assoc own fine (passes_own (suc (left down (state_of b'))) (state_of b') n)
        ∙ ap (λ x. own && (x && passes_own (suc (left down (state_of b'))) (state_of b') n)) f
        ∙ ap (λ x. own && (pass_own (state_of b) n && x))
        (passes-fuel (suc (left down (state_of b'))) (left down (state_of b)) (state_of b') n (formed-ends b' next.ready.formed)
        (omega arith) falls)
        ∙ ap (λ (d : State). own && (pass_own (state_of b) n && passes_own (left down (state_of b)) d n)) now-is
        ∙ ap (λ x. own && x) (sym (passes-more n (left down (state_of b)) (state_of b) called))
        ∙ p.goes refl;
    ends = λ e.
        ap (λ x. own && x) f
        ∙ ap (λ x. own && x) (sym (passes-last n (left down (state_of b)) (state_of b) (sym a.another ∙ e)))
        ∙ p.goes refl;
  }

pub testing-all : {b₀ b t₀ t : List ℤ} {n k : ℕ} {own held : Bool} → Testing b₀ b t₀ t n k false own → held ≡ holds_lists (state_of b) n
    → own && held ≡ keeps_sound (state_of b₀) n
unfolding keeps_sound
testing-all {b₀} {b} {t₀} {t} {n} {k} {own} {held} p h =
    let e : state_of b ≡ (prepare_node (state_of b₀) n down).state = ap (λ (x : Prepared). x.state) (p.prepares.ends refl) in
    ap (λ x. own && x) (h ∙ ap (λ (d : State). holds_lists d n) e)
    ∙ ap (λ x. x && holds_lists (prepare_node (state_of b₀) n down).state n) (p.ends refl)

-- ---- any direction

-- whatever is not upward is downward
module _ (d : ℕ) (h : d ≢ up) where
  one_same : (c : State) (n : ℕ) → one_pass c n d ≡ one_pass c n down
  one_same c n = one_down c n d (ne_eqb d up h) ∙ sym (one_down c n down refl)

  from-same : (fuel : ℕ) (c : State) (n k : ℕ) → prepare_from fuel c n d k ≡ prepare_from fuel c n down k
  from-same zero c n k = unfold prepare_from in refl
  from-same (suc fuel) c n k =
      let w : (one_pass c n d).another ≡ (one_pass c n down).another = ap (λ (x : Work). x.another) (one_same c n) in
      let s : pass_state c n d ≡ pass_state c n down = ap (λ (x : Work). finish_pass x n) (one_same c n) in
      by-test (one_pass c n down).another
      (λ e.
      prepare-more fuel c n d k (w ∙ e) ∙ from-same fuel (pass_state c n d) n (k + 1)
      ∙ ap (λ (x : State). prepare_from fuel x n down (k + 1)) s ∙ sym (prepare-more fuel c n down k e))
      (λ e.
      prepare-last fuel c n d k (w ∙ e) ∙ ap (λ (x : State). record { state = x; passes = k + 1 }) s
      ∙ sym (prepare-last fuel c n down k e))

  pub prepare-down-same : (c : State) (n : ℕ) → prepare_node c n d ≡ prepare_node c n down
  unfolding prepare_node
  prepare-down-same c n = from-same (suc (vertex_count c)) c n 0

  pub to-down : {c : State} {n : ℕ} → Preparable c n d → Preparable c n down
  to-down p = record { grows = λ e. absurd (omega arith); shrinks = λ e. p.shrinks h }

  pub from-down : {c : State} {n : ℕ} → Preparable c n down → Preparable c n d
  from-down p = record { grows = λ e. absurd (h e); shrinks = λ e. p.shrinks (λ z. omega arith) }

-- by the test before: where it is taken, the direction is downward and the passes are tested
module _ (ask : Bool) (d : ℕ) where
  pub asked-down : (ask && not (eqb d up)) ≡ true → d ≢ up
  asked-down h e = clash (ask && not (eqb d up)) h (rw e (and-false ask))

  pub asked-test : (x : Bool) → (ask && not (eqb d up)) ≡ true → x ≡ (ask && (eqb d up || x))
  asked-test x h = rw (and_left ask (not (eqb d up)) h, ne_eqb d up (asked-down h))

  -- where it is not, `ask` alone says it
  pub not-asked : (x : Bool) → (ask && not (eqb d up)) ≡ false → ask ≡ (ask && (eqb d up || x))
  not-asked x h =
      by-test ask
      (λ e. by-test (eqb d up) (λ f. rw (e, f)) (λ f. clash (ask && not (eqb d up)) (rw (e, f)) h))
      (λ e. rw e)

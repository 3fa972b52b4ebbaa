-- Laws of preparation: what it leaves alone, that its fuel never runs out, and how to prove a fact of what it leaves.
use Rattle.std.specs.Prelude.{ℕ, zero, suc, ◌+◌, ◌-◌, ◌≤◌, ◌<◌, ◌≡◌, refl, Bool, true, false, eqb, length, if◌then◌else◌}
use Rattle.std.proofs.Common.{arith, sym, ◌∙◌}
use Rattle.std.proofs.Math.Path.{ap}
use Rattle.graph.specs.State.{State, vertex_count, with_nodes, with_boundary, with_overgrown, up}
use Rattle.graph.specs.laws.State.{if-both}
use Rattle.graph.specs.laws.Members.{by-test}
use Rattle.pass.specs.Work.{Work, finish_pass}
use Rattle.pass.specs.Grow.{grow_pass}
use Rattle.pass.specs.Shrink.{shrink_pass}
use Rattle.pass.proofs.laws.Passes.{Passed, passed-refl, passed-trans, grow-passed, shrink-passed}
use Rattle.pass.specs.inner.Free.{zero_count, free_count}
use Rattle.pass.proofs.laws.Counts.{zeros-le, one, grow-pass-fewer, shrink-pass-more}
use Rattle.pass.specs.inner.Ends.{EndsIn}
use Rattle.pass.specs.Prepare.{one_pass, Prepared, prepare_from, prepare_node}

-- the state after one pass
abbrev pub pass_state : State → ℕ → ℕ → State
pass_state c n d = finish_pass (one_pass c n d) n

pub one-passed : (c : State) (n d : ℕ) → Passed n c (pass_state c n d)
unfolding one_pass
one-passed c n d = if-both (λ w. Passed n c (finish_pass w n)) (eqb d up) (grow-passed c n) (shrink-passed c n)

-- ---- one step of preparation

module _ (fuel : ℕ) (c : State) (n d k : ℕ) where
  -- what follows a pass, by its call for another
  onward : Bool → Prepared
  onward true = prepare_from fuel (pass_state c n d) n d (k + 1)
  onward false = record { state = pass_state c n d; passes = k + 1 }

  pub prepare-more : (one_pass c n d).another ≡ true → prepare_from (suc fuel) c n d k ≡ prepare_from fuel (pass_state c n d) n d (k + 1)
  unfolding prepare_from onward
  prepare-more e = ap onward e

  pub prepare-last : (one_pass c n d).another ≡ false → prepare_from (suc fuel) c n d k ≡ record { state = pass_state c n d; passes = k + 1 }
  unfolding prepare_from onward
  prepare-last e = ap onward e

-- ---- what preparation leaves alone

pub prepare-from-passed : (fuel : ℕ) (c : State) (n d k : ℕ) → Passed n c (prepare_from fuel c n d k).state
prepare-from-passed zero c n d k = unfold prepare_from in passed-refl n c
prepare-from-passed (suc fuel) c n d k =
    by-test (one_pass c n d).another
    (λ e. rw (prepare-more fuel c n d k e) (passed-trans (one-passed c n d) (prepare-from-passed fuel (pass_state c n d) n d (k + 1))))
    (λ e. rw (prepare-last fuel c n d k e) (one-passed c n d))

pub prepare-passed : (c : State) (n d : ℕ) → Passed n c (prepare_node c n d).state
unfolding prepare_node
prepare-passed c n d = prepare-from-passed (suc (vertex_count c)) c n d 0

-- ---- fuel

-- how many more passes can call for another
unfoldable pub left : ℕ → State → ℕ
left d c = if eqb d up then free_count c else length c.vertices.vertex_holder - free_count c

pub left_le : (d : ℕ) (c : State) → left d c ≤ length c.vertices.vertex_holder
unfolding left
left_le d c = by-test (eqb d up) (λ e. rw e (zeros-le c.vertices.vertex_holder)) (λ e. rw e (omega arith))

finish-vertices : (w : Work) (n : ℕ) → (finish_pass w n).vertices ≡ w.state.vertices
unfolding finish_pass with_overgrown with_boundary with_nodes
finish-vertices w n = refl

pub ends-passed : (n : ℕ) (c d : State) → Passed n c d → EndsIn c → EndsIn d
ends-passed n c d p ends s = rw (p.graph, p.vertex_holder) (ends s)

pub one_up : (c : State) (n d : ℕ) → eqb d up ≡ true → one_pass c n d ≡ grow_pass c n
unfolding one_pass
one_up c n d e = rw e

pub one_down : (c : State) (n d : ℕ) → eqb d up ≡ false → one_pass c n d ≡ shrink_pass c n
unfolding one_pass
one_down c n d e = rw e

-- a pass that calls for another leaves fewer to come
pub pass-falls : (c : State) (n d : ℕ) → EndsIn c → (one_pass c n d).another ≡ true → left d (pass_state c n d) < left d c
unfolding left one
pass-falls c n d ends h =
    let same : free_count (pass_state c n d) ≡ free_count (one_pass c n d).state = ap (λ x. zero_count x.vertex_holder) (finish-vertices (one_pass c n d) n) in
    let len : length (pass_state c n d).vertices.vertex_holder ≡ length c.vertices.vertex_holder = (one-passed c n d).vertex_holder in
    let called : one (one_pass c n d).another ≡ 1 = ap one h in
    by-test (eqb d up)
    (λ e.
    let f : free_count (one_pass c n d).state + one (one_pass c n d).another ≤ free_count c = rw (one_up c n d e) (grow-pass-fewer c n ends) in
    rw e (omega arith))
    (λ e.
    let f : free_count c + one (one_pass c n d).another ≤ free_count (one_pass c n d).state = rw (one_down c n d e) (shrink-pass-more c n) in
    rw e (omega (arith, zeros-le (pass_state c n d).vertices.vertex_holder)))

-- more fuel than is needed changes nothing
pub prepare-fuel : (f g : ℕ) (c : State) (n d k : ℕ) → EndsIn c → left d c < f → left d c < g → prepare_from f c n d k ≡ prepare_from g c n d k
prepare-fuel zero g c n d k ends hf hg = absurd (omega arith)
prepare-fuel (suc f) zero c n d k ends hf hg = absurd (omega arith)
prepare-fuel (suc f) (suc g) c n d k ends hf hg =
    by-test (one_pass c n d).another
    (λ e.
    let falls : left d (pass_state c n d) < left d c = pass-falls c n d ends e in
    prepare-more f c n d k e
    ∙ prepare-fuel f g (pass_state c n d) n d (k + 1) (ends-passed n c (pass_state c n d) (one-passed c n d) ends) (omega arith) (omega arith)
    ∙ sym (prepare-more g c n d k e))
    (λ e. prepare-last f c n d k e ∙ sym (prepare-last g c n d k e))

-- ---- how to prove a fact of what preparation leaves

-- P holds before each pass, and Q after the pass that calls for no other
module _ (n d : ℕ) (P Q : State → Type 0)
    (more : (c : State) → P c → (one_pass c n d).another ≡ true → P (pass_state c n d))
    (last : (c : State) → P c → (one_pass c n d).another ≡ false → Q (pass_state c n d)) where
  pub prepare-from-leaves : (f : ℕ) (c : State) (k : ℕ) → EndsIn c → left d c < f → P c → Q (prepare_from f c n d k).state
  prepare-from-leaves zero c k ends h p = absurd (omega arith)
  prepare-from-leaves (suc f) c k ends h p =
      by-test (one_pass c n d).another
      (λ e.
      let falls : left d (pass_state c n d) < left d c = pass-falls c n d ends e in
      rw (prepare-more f c n d k e)
      (prepare-from-leaves f (pass_state c n d) (k + 1) (ends-passed n c (pass_state c n d) (one-passed c n d) ends)
      (omega arith) (more c p e)))
      (λ e. rw (prepare-last f c n d k e) (last c p e))

  pub prepare-leaves : (c : State) → EndsIn c → length c.vertices.vertex_holder ≡ vertex_count c → P c → Q (prepare_node c n d).state
  unfolding prepare_node
  prepare-leaves c ends len p = prepare-from-leaves (suc (vertex_count c)) c 0 ends (omega (arith, left_le d c)) p

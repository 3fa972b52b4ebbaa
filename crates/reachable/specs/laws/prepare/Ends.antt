-- Preparation ends with a pass that calls for no other, in at most V + 1 passes.
use Rattle.std.specs.Prelude.{ℕ, zero, suc, ◌+◌, ◌≤◌, ◌<◌, ◌≡◌, refl, true, false}
use Rattle.std.proofs.Common.{arith}
use Rattle.graph.specs.State.{State, vertex_count}
use Rattle.graph.specs.laws.Members.{by-test}
use Rattle.graph.specs.Sound.{sound}
use Rattle.graph.specs.laws.Shape.{sound-end}
use Rattle.graph.specs.Shape.{Shape}
use Rattle.pass.specs.Prepare.{Prepared, one_pass, prepare_from, prepare_node}
use Rattle.pass.specs.inner.Ends.{EndsIn}
use Rattle.pass.proofs.laws.Prepare.{pass_state, one-passed, prepare-more, prepare-last, left, left_le, ends-passed, pass-falls}
use Rattle.reachable.specs.Passes.{passes, Ends}

-- one more pass, before the others
ends_more : (c : State) (n d k : ℕ) (r : Prepared) → (one_pass c n d).another ≡ true → Ends (pass_state c n d) n d (k + 1) r → Ends c n d k r
unfolding passes
ends_more c n d k r e t = record {
  before = suc t.before;
  counted = omega (arith, t.counted);
  state = t.state;
  others = others;
  last = t.last;
}
  where
    others : (i : ℕ) → i < suc t.before → (one_pass (passes i c n d) n d).another ≡ true
    others zero b = e
    others (suc i) b = t.others i (omega arith)

-- the last pass
ends_last : (c : State) (n d k : ℕ) → (one_pass c n d).another ≡ false → Ends c n d k (record { state = pass_state c n d; passes = k + 1 })
unfolding passes
ends_last c n d k e = record { before = 0; counted = omega arith; state = refl; others = λ i b. absurd (omega arith); last = e }

-- what holds of the last pass, and with each pass before it, holds of what preparation gives
module _ (n d : ℕ) (Q : State → ℕ → Prepared → Type 0)
    (more : (c : State) (k : ℕ) (r : Prepared) → (one_pass c n d).another ≡ true → Q (pass_state c n d) (k + 1) r → Q c k r)
    (last : (c : State) (k : ℕ) → (one_pass c n d).another ≡ false → Q c k (record { state = pass_state c n d; passes = k + 1 })) where
  prepare-gives : (fuel : ℕ) (c : State) (k : ℕ) → EndsIn c → left d c < fuel → Q c k (prepare_from fuel c n d k)
  prepare-gives zero c k ends h = absurd (omega arith)
  prepare-gives (suc fuel) c k ends h =
      by-test (one_pass c n d).another
      (λ e.
      let falls : left d (pass_state c n d) < left d c = pass-falls c n d ends e in
      rw (prepare-more fuel c n d k e)
      (more c k (prepare_from fuel (pass_state c n d) n d (k + 1)) e
      (prepare-gives fuel (pass_state c n d) (k + 1) (ends-passed n c (pass_state c n d) (one-passed c n d) ends)
      (omega arith))))
      (λ e. rw (prepare-last fuel c n d k e) (last c k e))

pub prepare-ends : (c : State) → Shape c → 1 ≤ vertex_count c → sound c ≡ true → (n d : ℕ) → Ends c n d 0 (prepare_node c n d)
unfolding prepare_node
prepare-ends c z one h n d =
    prepare-gives n d (λ x k r. Ends x n d k r) (λ x k r e t. ends_more x n d k r e t) (λ x k e. ends_last x n d k e) (suc (vertex_count c)) c 0
    (λ s. rw z.vertex_holder (sound-end c z h one s)) (omega (arith, left_le d c, z.vertex_holder))

passes-le : (fuel : ℕ) (c : State) (n d k : ℕ) → (prepare_from fuel c n d k).passes ≤ k + fuel
passes-le zero c n d k = unfold prepare_from in (omega arith)
passes-le (suc fuel) c n d k =
    by-test (one_pass c n d).another
    (λ e. rw (prepare-more fuel c n d k e)
    (let r : (prepare_from fuel (pass_state c n d) n d (k + 1)).passes
    ≤ k + 1 + fuel = passes-le fuel (pass_state c n d) n d (k + 1) in
    omega arith))
    (λ e. rw (prepare-last fuel c n d k e) (omega arith))

pub prepare-passes : (c : State) (n d : ℕ) → (prepare_node c n d).passes ≤ vertex_count c + 1
unfolding prepare_node
prepare-passes c n d = omega (arith, passes-le (suc (vertex_count c)) c n d 0)

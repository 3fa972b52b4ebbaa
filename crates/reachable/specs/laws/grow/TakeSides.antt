-- The loop over the sides of a vertex that a growing pass takes: each free side is held and kept.
use Prim.Native.Nat.{ℕ, ◌+◌, ◌≤◌, ◌<◌}
use native.Mathlib.Omega.{arith}
use Rattle.std.proofs.Math.Decide.{ℕ_discrete as dec_eq}
use Rattle.std.specs.Prelude.{◌≡◌, ◌≢◌, ◌⊎◌, false, ◌||◌}
use Rattle.std.proofs.Math.Path.{refl, sym}
use Rattle.std.proofs.Common.{◌∙◌, length-append, get_or-set_other, eq-eqb, ne_eqb}
use Rattle.std.proofs.Math.Logic.{inl, inr, ⊎_elim, by_cases}
use Rattle.std.proofs.Math.Bool.{true}
use mathlib.Core.List.{List, [], ◌∷◌, ◌++◌}
use Rattle.std.proofs.Math.Dec.{eqb}
use Rattle.std.proofs.Math.ListN.{length}
use Rattle.graph.specs.Basic.{fold, member}
use Rattle.graph.specs.State.{State, holder_at, vertex_holder_at, weight_over, with_sides, with_vertices, with_holder, with_grandson, with_vertex_holder, with_vertex_grandson, held_side, held_vertex}
use Rattle.graph.specs.laws.State.{kept_refl, kept_trans, kept-held-side}
use Rattle.graph.specs.inner.Kept.{SameButHolders}
use Rattle.graph.specs.laws.Members.{by-test, clash, or_left, or_right, member-head, member-tail, member-cons, member-nil, member-append, member-append-left, member-append-right}
use Rattle.pass.specs.Work.{Work, on_state, keep, call_another}
use Rattle.pass.specs.Grow.{take_side}
use Rattle.pass.proofs.laws.Fits.{side-held}

-- ---- one side, one vertex

pub side-other : (c : State) (s n g t : ℕ) → t ≢ s → holder_at (held_side c s n g) t ≡ holder_at c t
unfolding held_side with_grandson with_holder with_sides
side-other c s n g t h = get_or-set_other c.sides.holder s t (n + 1) 0 h

pub side-vertices : (c : State) (s n g : ℕ) → (held_side c s n g).vertices ≡ c.vertices
unfolding held_side with_grandson with_holder with_sides
side-vertices c s n g = refl

pub vertex-other : (c : State) (v n g u : ℕ) → u ≢ v → vertex_holder_at (held_vertex c v n g) u ≡ vertex_holder_at c u
unfolding held_vertex with_vertex_grandson with_vertex_holder with_vertices
vertex-other c v n g u h = get_or-set_other c.vertices.vertex_holder v u (n + 1) 0 h

pub vertex-sides : (c : State) (v n g : ℕ) → (held_vertex c v n g).sides ≡ c.sides
unfolding held_vertex with_vertex_grandson with_vertex_holder with_vertices
vertex-sides c v n g = refl

-- ---- the loop

-- whether a free side was met
pub data FreeSideMet (l : List ℕ) (w z : Work) : Type 0 where
  none_free : length z.kept ≡ length w.kept → ((t : ℕ) → member t l ≡ true → holder_at w.state t ≢ 0) → FreeSideMet l w z
  some-free : (t : ℕ) → member t l ≡ true → holder_at w.state t ≡ 0 → length w.kept < length z.kept → FreeSideMet l w z

pub record SidesTaken (n : ℕ) (l : List ℕ) (w z : Work) : Type 0 where
  pub keeps : SameButHolders w.state z.state
  pub vertices : z.state.vertices ≡ w.state.vertices
  pub over : z.over ≡ w.over
  pub noted : z.noted ≡ w.noted
  pub occupied : (t : ℕ) → member t l ≡ true → holder_at w.state t ≡ 0 → holder_at z.state t ≡ n + 1
  pub held : (t : ℕ) → holder_at w.state t ≢ 0 → holder_at z.state t ≡ holder_at w.state t
  pub other : (t : ℕ) → member t l ≡ false → holder_at z.state t ≡ holder_at w.state t
  pub still : (s : ℕ) → member s w.kept ≡ true → member s z.kept ≡ true
  pub another : w.another ≡ true → z.another ≡ true
  pub new : (s : ℕ) → member s z.kept ≡ true
      → (member s w.kept ≡ true)
      ⊎ ((member s l ≡ true) × (holder_at w.state s ≡ 0) × (weight_over w.state s ≡ 0 → z.another ≡ true))
  pub all : (t : ℕ) → member t l ≡ true → holder_at w.state t ≡ 0 → member t z.kept ≡ true
  pub longer : length w.kept ≤ length z.kept
  pub met : FreeSideMet l w z

-- a step over a held side, and over a free one
step-held : (n g : ℕ) (w : Work) (x : ℕ) → holder_at w.state x ≢ 0 → take_side n g w x ≡ w
unfolding take_side
step-held n g w x e = rw (ne_eqb (holder_at w.state x) 0 e)

step-free : (n g : ℕ) (w : Work) (x : ℕ) → holder_at w.state x ≡ 0
    → take_side n g w x ≡ call_another (keep (on_state w (held_side w.state x n g)) x) (eqb (weight_over w.state x) 0)
unfolding take_side
step-free n g w x e = rw e

module _ (n g : ℕ) where
  pub take-sides : (l : List ℕ) (w : Work) → ((t : ℕ) → member t l ≡ true → t < length w.state.sides.holder) → SidesTaken n l w (fold (take_side n g) w l)
  unfolding fold
  take-sides [] w inside = record {
    keeps = kept_refl w.state;
    vertices = refl;
    over = refl;
    noted = refl;
    occupied = λ t m. member-nil t m;
    held = λ t e. refl;
    other = λ t m. refl;
    still = λ s m. m;
    another = λ e. e;
    new = λ s m. inl m;
    all = λ t m. member-nil t m;
    longer = omega arith;
    met = none_free refl (λ t m. member-nil t m);
  }
  take-sides (x ∷ l) w inside =
      by_cases (dec_eq (holder_at w.state x) 0)
      (λ e.
      let r : SidesTaken n l (free-work x w) (fold (take_side n g) (free-work x w) l) =
      take-sides l (free-work x w) (λ t m. rw (free-keeps x w).holder (inside t (member-tail t x l m))) in
      rw (step-free n g w x e) (step-taken x l w e (inside x (member-head x l)) r))
      (λ e.
      let r : SidesTaken n l w (fold (take_side n g) w l) = take-sides l w (λ t m. inside t (member-tail t x l m)) in
      rw (step-held n g w x e) (passed x l w e r))
    where
      free-work : ℕ → Work → Work
      free-work x w = call_another (keep (on_state w (held_side w.state x n g)) x) (eqb (weight_over w.state x) 0)

      free-keeps : (x : ℕ) (w : Work) → SameButHolders w.state (free-work x w).state
      free-keeps x w = unfold call_another keep on_state in (kept-held-side w.state x n g)

      passed : (x : ℕ) (l : List ℕ) (w : Work) {z : Work} → holder_at w.state x ≢ 0 → SidesTaken n l w z → SidesTaken n (x ∷ l) w z
      passed x l w {z} e r = record {
        keeps = r.keeps;
        vertices = r.vertices;
        over = r.over;
        noted = r.noted;
        occupied = λ t m h. member-cons t x l m (λ a. absurd (e (rw a at h))) (λ a. r.occupied t a h);
        held = r.held;
        other = λ t m. r.other t (by-test (member t l) (λ a. clash (member t (x ∷ l)) (member-tail t x l a) m) (λ a. a));
        still = r.still;
        another = r.another;
        new = λ s m. ⊎_elim (λ (a : member s w.kept ≡ true). inl a)
            (λ (a : (member s l ≡ true) × (holder_at w.state s ≡ 0) × (weight_over w.state s ≡ 0 → z.another ≡ true)).
            inr
            (member-tail s x l a.0, a.1, a.2))
            (r.new s m);
        all = λ t m h. member-cons t x l m (λ a. absurd (e (rw a at h))) (λ a. r.all t a h);
        longer = r.longer;
        met = elim r.met [
          | none_free p f ↦ none_free p (λ t m. member-cons t x l m (λ a. rw a e) (λ a. f t a))
          | some-free t m h p ↦ some-free t (member-tail t x l m) h p
        ];
      }

      step-taken : (x : ℕ) (l : List ℕ) (w : Work) {z : Work} → holder_at w.state x ≡ 0
          → x < length w.state.sides.holder → SidesTaken n l (free-work x w) z → SidesTaken n (x ∷ l) w z
      step-taken x l w {z} e b r =
          let one : Work = free-work x w in
          let kept-one : one.kept ≡ w.kept ++ (x ∷ []) = unfold call_another keep on_state in refl in
          let len : length one.kept ≡ length w.kept + 1 = rw kept-one (length-append w.kept (x ∷ [])) in
          let here : holder_at one.state x ≡ n + 1 = unfold call_another keep on_state in (side-held w.state x n g b) in
          let there : (t : ℕ) → t ≢ x → holder_at one.state t ≡ holder_at w.state t =
          λ t a. unfold call_another keep on_state in
          (side-other w.state x n g t a) in
          let in_one : member x one.kept ≡ true = rw kept-one (member-append-right x w.kept (x ∷ []) (member-head x [])) in
          let now : holder_at z.state x ≡ n + 1 = r.held x (λ q. omega arith) ∙ here in
          let v-one : one.state.vertices ≡ w.state.vertices = unfold call_another keep on_state in (side-vertices w.state x n g) in
          let o-one : one.over ≡ w.over = unfold call_another keep on_state in refl in
          let n-one : one.noted ≡ w.noted = unfold call_another keep on_state in refl in
          let a_one : one.another ≡ (w.another || eqb (weight_over w.state x) 0) = unfold call_another keep on_state in refl in
          let called : weight_over w.state x ≡ 0 → one.another ≡ true =
          λ k. a_one ∙ or_right w.another (eqb (weight_over w.state x) 0) (eq-eqb (weight_over w.state x) 0 k) in
          record {
            keeps = kept_trans (free-keeps x w) r.keeps;
            vertices = r.vertices ∙ v-one;
            over = r.over ∙ o-one;
            noted = r.noted ∙ n-one;
            occupied = λ t m h. by_cases (dec_eq t x) (λ a. rw a now) (λ a. member-cons t x l m (λ q. absurd (a q)) (λ q. r.occupied t q (there t a ∙ h)));
            held = λ t h. let a : t ≢ x = λ q. h (rw q e) in r.held t (λ q. h (sym (there t a) ∙ q)) ∙ there t a;
            other = λ t m.
                let a : t ≢ x = λ q. clash (member t (x ∷ l)) (rw q (member-head x l)) m in
                r.other t (by-test (member t l) (λ q. clash (member t (x ∷ l)) (member-tail t x l q) m) (λ q. q)) ∙ there t a;
            still = λ s m. r.still s (rw kept-one (member-append-left s w.kept (x ∷ []) m));
            another = λ k. r.another (a_one ∙ or_left w.another (eqb (weight_over w.state x) 0) k);
            new = λ s m.
                ⊎_elim
                (λ (a : member s one.kept ≡ true).
                member-append s w.kept (x ∷ []) (rw kept-one at a) (λ q. inl q)
                (λ q. member-cons s x [] q (λ y. inr (rw y (member-head x l), rw y e, rw y (λ k. r.another (called k)))) (λ y. member-nil s y)))
                (λ (a : (member s l ≡ true) × (holder_at one.state s ≡ 0) × (weight_over one.state s ≡ 0 → z.another ≡ true)).
                let ne : s ≢ x = λ q. let y : holder_at one.state x ≡ 0 = rw q at a.1 in omega arith in
                inr (member-tail s x l a.0, sym (there s ne) ∙ a.1, λ k. a.2 (rw (free-keeps x w).graph k)))
                (r.new s m);
            all = λ t m h. by_cases (dec_eq t x) (λ a. rw a (r.still x in_one))
                (λ a. member-cons t x l m (λ q. absurd (a q)) (λ q. r.all t q (there t a ∙ h)));
            longer = omega (arith, r.longer);
            met = some-free x (member-head x l) e (omega (arith, r.longer));
          }

-- Laws of a vertex that goes: what the small changes of memory make of the work.
use Rattle.std.specs.Prelude.{ℕ, ◌+◌, ◌/◌, ◌<◌, ◌≡◌, ◌≢◌, Bool, true, false, ◌||◌, List, [], ℤ, eqb, get_or}
use Rattle.std.proofs.Common.{arith, ap}
use borrow.Author.Tests.{eq-eqb, ne_eqb}
use Rattle.graph.specs.Basic.{fold}
use Rattle.graph.specs.State.{State, Graph, opposite, sides_at, weight_over, vertex_holder_at, free_side, free_vertex}
use Rattle.graph.specs.Layout.{state_of}
use Rattle.graph.specs.inner.Form.{Becomes}
use Rattle.graph.specs.laws.State.{kept-free-side, kept-free-vertex}
use Rattle.graph.specs.inner.Kept.{SameButHolders}
use Rattle.pass.specs.Work.{on_state, keep_once}
use Rattle.pass.specs.Shrink.{closed, drop_side, drop_step, release_side}
use Rattle.pass.specs.inner.Another.{called_if}
use Rattle.pass.specs.inner.Once.{release_once}
use Rattle.shrink_pass.specs.inner.Shrinking.{ShrinkWorking, ShrinkWorked, part_side, part_vertex}
use Rattle.shrink_pass.specs.laws.Shrinking.{does-none, does-then, does-same, does-state, does_call}
use Rattle.shrink_pass.specs.declared.keep.ShrinkProgress.{ShrinkProgress}

-- the sides at a vertex stay
pub same-sides : {c d : State} (v : ℕ) → SameButHolders c d → sides_at d v ≡ sides_at c v
same-sides v k = ap (λ (g : Graph). get_or g.at v []) k.graph

module _ {b t : List ℤ} {m : ℕ} {p : ShrinkProgress} (q : ShrinkWorking b t m p) where
  -- the side across is a side
  pub across-below : (s r : ℕ) → s < m → r / 2 ≡ s / 2 → r < m
  across-below s r h e = omega (arith, h, e, q.sides, q.formed.pairs)

  pub does-free-side : {b' : List ℤ} (s : ℕ) → Becomes b b' (free_side (state_of b) s) → ShrinkWorked b t b' t m p p (λ w. on_state w (free_side w.state s))
  does-free-side s e = does-state q (λ c. free_side c s) (λ c. kept-free-side c s) e

  pub does-free-vertex : {b' : List ℤ} (v : ℕ) → Becomes b b' (free_vertex (state_of b) v)
      → ShrinkWorked b t b' t m p p (λ w. on_state w (free_vertex w.state v))
  does-free-vertex v e = does-state q (λ c. free_vertex c v) (λ c. kept-free-vertex c v) e

  pub does-drop-side : {b' t' : List ℤ} {p' : ShrinkProgress} (s : ℕ) (z : Bool) → Becomes b b' (free_side (state_of b) s)
      → z ≡ eqb (weight_over (state_of b) s) 0
      → (ShrinkWorking b' t m p → ShrinkWorked b' t b' t' m p p' (λ w. keep_once w (opposite s)))
      → ShrinkWorked b t b' t' m p (record { kept = p'.kept; noted = p'.noted; another = called_if z p'.another })
      (λ w. drop_side w s)
  unfolding drop_side
  does-drop-side s z e k f =
      let freed = does-free-side s e in
      let kept = does-then freed (f freed.working) in
      does-same (λ w. drop_side w s) (λ w h. rw (← h.state, k)) (does-then kept (does_call kept.working z))

  -- a vertex that goes, with its sides
  pub does-part-vertex : {b' b'' t'' : List ℤ} {p' : ShrinkProgress} (d : Bool) (n v : ℕ)
      → Becomes b b' (free_vertex (state_of b) v)
      → (ShrinkWorking b' t m p → ShrinkWorked b' t b'' t'' m p p' (λ w. fold (part_side d n) w (sides_at (state_of b') v)))
      → ShrinkWorked b t b'' t'' m p p' (λ w. part_vertex d n w v)
  unfolding part_vertex
  does-part-vertex d n v e f =
      let freed = does-free-vertex v e in
      does-same (λ w. part_vertex d n w v) (λ w h. rw (same-sides v freed.keeps, h.state)) (does-then freed (f freed.working))

module _ {b t b' t' : List ℤ} {m : ℕ} {p p' : ShrinkProgress} (n : ℕ) where
  -- a side of it, by what the test says
  pub does-part-drop : (d : Bool) (s : ℕ) → (d || closed n (state_of b) s) ≡ true
      → ShrinkWorked b t b' t' m p p' (λ w. drop_side w s) → ShrinkWorked b t b' t' m p p' (λ w. part_side d n w s)
  unfolding part_side
  does-part-drop d s h q = does-same (λ w. part_side d n w s) (λ w e. rw (← e.state, h)) q

  pub does-part-free : (d : Bool) (s : ℕ) → (d || closed n (state_of b) s) ≡ false
      → ShrinkWorked b t b' t' m p p' (λ w. on_state w (free_side w.state s))
      → ShrinkWorked b t b' t' m p p' (λ w. part_side d n w s)
  unfolding part_side
  does-part-free d s h q = does-same (λ w. part_side d n w s) (λ w e. rw (← e.state, h)) q

  -- a vertex that is taken off the overgrown stack, and one that is released
  pub does-drop : (v : ℕ) → vertex_holder_at (state_of b) v ≡ n + 1
      → ShrinkWorked b t b' t' m p p' (λ w. part_vertex true n w v) → ShrinkWorked b t b' t' m p p' (λ w. drop_step n w v)
  unfolding drop_step part_vertex part_side
  does-drop v h q = does-same (λ w. drop_step n w v) (λ w e. rw (← e.state, eq-eqb _ _ h)) q

  pub does-release : (v : ℕ) → ShrinkWorked b t b' t' m p p' (λ w. part_vertex false n w v) → ShrinkWorked b t b' t' m p p' (λ w. release_once n w v)
  unfolding release_once part_vertex part_side release_side drop_side
  does-release v q = q

-- a vertex that another node holds stays
module _ {b t : List ℤ} {m : ℕ} {p : ShrinkProgress} (q : ShrinkWorking b t m p) (n v : ℕ) where
  pub does-no-drop : vertex_holder_at (state_of b) v ≢ n + 1 → ShrinkWorked b t b t m p p (λ w. drop_step n w v)
  unfolding drop_step
  does-no-drop h = does-same (λ w. drop_step n w v) (λ w e. rw (← e.state, ne_eqb _ _ h)) (does-none q)

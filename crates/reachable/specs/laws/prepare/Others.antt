-- What another node holds after passes over node n, it held before: on every state.
use Rattle.std.specs.Prelude.{ℕ, zero, suc, ◌+◌, ◌≡◌, ◌≢◌, ◌&&◌, List, length, get_or, set}
use Rattle.std.proofs.Common.{arith, sym, ap, ◌∙◌, get_or-set_same, get_or-set_other}
use Rattle.std.proofs.Math.Decide.{ℕ_discrete as dec_eq, dec_lt}
use Rattle.std.proofs.Math.Logic.{by_cases}
use Rattle.std.proofs.Math.Dec.{eqb}
use Rattle.std.proofs.Math.Seq.{set_out}
use Rattle.graph.specs.Basic.{fold}
use Rattle.graph.specs.State.{State, opposite, vertex_count, end_at, growth_at, holder_at, grandson_at, vertex_holder_at, defect_at, sides_at, boundary_of, overgrown_of, with_nodes, with_sides, with_vertices, with_holder, with_grandson, with_vertex_holder, with_vertex_grandson, with_boundary, with_overgrown, held_side, held_vertex, free_side, free_vertex, up}
use Rattle.graph.specs.laws.State.{if-both, fold-keeps}
use Rattle.graph.specs.laws.Members.{by-test}
use Rattle.pass.specs.Work.{Work, on_state, keep, keep_once, note, push, call_another, start_pass, finish_pass}
use Rattle.pass.specs.Grow.{reaches, grow_step, take_side, take_vertex, take_step, grow_scanned, grow_pass}
use Rattle.pass.specs.Shrink.{empty_tops, below_tops, drop_side, drop_step, shrink_step, closed, release_side, release_step, dropped, shrink_scanned, shrink_pass}
use Rattle.pass.specs.Prepare.{one_pass, prepare_from, prepare_node}
use Rattle.pass.proofs.laws.Prepare.{pass_state, prepare-more, prepare-last}
use Rattle.reachable.specs.laws.shrink.FreeSides.{keep-once-state}

-- ---- a fact of sides and vertices that passes over node n keep

-- P is kept when a side or a vertex is freed, and when node n takes one
module _ (n : ℕ) (P : State → Type 0)
    (free-side : (c : State) (s : ℕ) → P c → P (free_side c s)) (free-vertex : (c : State) (v : ℕ) → P c → P (free_vertex c v))
    (held-side : (c : State) (s g : ℕ) → P c → P (held_side c s n g)) (held-vertex : (c : State) (v g : ℕ) → P c → P (held_vertex c v n g)) where
  abbrev In : Work → Type 0
  In w = P w.state

  once-in : (w : Work) (s : ℕ) → In w → In (keep_once w s)
  once-in w s p = rw (keep-once-state w s) p

  -- shrinking
  drop-side-in : (w : Work) (t : ℕ) → In w → In (drop_side w t)
  unfolding drop_side call_another
  drop-side-in w t p = once-in (on_state w (free_side w.state t)) (opposite t) (unfold on_state in (free-side w.state t p))

  drop-in : (w : Work) (v : ℕ) → In w → In (drop_step n w v)
  unfolding drop_step
  drop-in w v p =
      if-both In (eqb (vertex_holder_at w.state v) (n + 1))
      (fold-keeps drop_side In drop-side-in (on_state w (free_vertex w.state v)) (sides_at w.state v)
      (unfold on_state in (free-vertex w.state v p)))
      p

  shrink-in : (w : Work) (s : ℕ) → In w → In (shrink_step w s)
  unfolding shrink_step note
  shrink-in w s p = if-both In (eqb (growth_at w.state s) 0 && eqb (defect_at w.state (end_at w.state s)) 0) p (once-in w s p)

  release-side-in : (w : Work) (t : ℕ) → In w → In (release_side n w t)
  unfolding release_side call_another
  release-side-in w t p =
      let q : In (on_state w (free_side w.state t)) = unfold on_state in (free-side w.state t p) in
      if-both In (closed n w.state t) (once-in (on_state w (free_side w.state t)) (opposite t) q) q

  release-in : (w : Work) (v : ℕ) → In w → In (release_step n w v)
  unfolding release_step
  release-in w v p =
      if-both In (eqb (vertex_holder_at w.state v) 0) p
      (fold-keeps (release_side n) In release-side-in (on_state w (free_vertex w.state v)) (sides_at w.state v)
      (unfold on_state in (free-vertex w.state v p)))

  shrink-pass-in : (c : State) → P c → In (shrink_pass c n)
  unfolding shrink_pass shrink_scanned dropped start_pass
  shrink-pass-in c p =
      let a : In (dropped c n) = fold-keeps (drop_step n) In drop-in (start_pass c (below_tops (overgrown_of c n))) (empty_tops (overgrown_of c n)) p in
      let b : In (shrink_scanned c n) = fold-keeps shrink_step In shrink-in (dropped c n) (boundary_of c n) a in
      fold-keeps (release_step n) In release-in (shrink_scanned c n) (shrink_scanned c n).noted b

  -- growing
  grow-in : (w : Work) (s : ℕ) → In w → In (grow_step n w s)
  unfolding grow_step note on_state keep
  grow-in w s p = if-both In (reaches w.state s) (held-side w.state (opposite s) (grandson_at w.state s) p) p

  take-side-in : (g : ℕ) (w : Work) (t : ℕ) → In w → In (take_side n g w t)
  unfolding take_side call_another on_state keep
  take-side-in g w t p = if-both In (eqb (holder_at w.state t) 0) (held-side w.state t g p) p

  take-vertex-in : (g : ℕ) (w : Work) (v : ℕ) → In w → In (take_vertex n g w v)
  unfolding take_vertex push
  take-vertex-in g w v p =
      let after : Work = fold (take_side n g) (on_state w (held_vertex w.state v n g)) (sides_at w.state v) in
      let k : In after =
      fold-keeps (take_side n g) In (take-side-in g) (on_state w (held_vertex w.state v n g)) (sides_at w.state v)
      (unfold on_state in (held-vertex w.state v g p)) in
      if-both In (eqb (length after.kept) (length w.kept)) k k

  take_in : (w : Work) (s : ℕ) → In w → In (take_step n w s)
  unfolding take_step
  take_in w s p =
      if-both In (eqb (vertex_holder_at w.state (end_at w.state (opposite s))) 0)
      (take-vertex-in (grandson_at w.state s) w (end_at w.state (opposite s)) p) p

  grow-pass-in : (c : State) → P c → In (grow_pass c n)
  unfolding grow_pass grow_scanned start_pass
  grow-pass-in c p =
      fold-keeps (take_step n) In take_in (grow_scanned c n) (grow_scanned c n).noted
      (fold-keeps (grow_step n) In grow-in (start_pass c (overgrown_of c n)) (boundary_of c n) p)

  pub pass-in : (c : State) (d : ℕ) → P c → P (one_pass c n d).state
  unfolding one_pass
  pass-in c d p = if-both In (eqb d up) (grow-pass-in c p) (shrink-pass-in c p)

-- ---- what another node holds

pub record HeldBefore (n : ℕ) (c d : State) : Type 0 where
  pub sides : (t m : ℕ) → m ≢ n → holder_at d t ≡ m + 1 → holder_at c t ≡ m + 1
  pub vertices : (u m : ℕ) → m ≢ n → vertex_holder_at d u ≡ m + 1 → vertex_holder_at c u ≡ m + 1

-- an entry that is no x was there before x was set
set_before : (l : List ℕ) (i x t y : ℕ) → x ≢ y → get_or (set l i x) t 0 ≡ y → get_or l t 0 ≡ y
set_before l i x t y ne h =
    by_cases (dec_eq t i)
    (λ e.
    by_cases (dec_lt i (length l))
    (λ b. absurd (ne (sym (get_or-set_same l i x 0 b) ∙ ap (λ j. get_or (set l i x) j 0) (sym e) ∙ h)))
    (λ b. rw (set_out l i x (omega arith)) at h))
    (λ e. sym (get_or-set_other l i t x 0 e) ∙ h)

module _ (n : ℕ) (c : State) where
  before-free-side : (d : State) (s : ℕ) → HeldBefore n c d → HeldBefore n c (free_side d s)
  unfolding free_side with_grandson with_holder with_sides
  before-free-side d s h =
      record { sides = λ t m ne e. h.sides t m ne (set_before d.sides.holder s 0 t (m + 1) (λ z. omega arith) e); vertices = h.vertices }

  before-free-vertex : (d : State) (v : ℕ) → HeldBefore n c d → HeldBefore n c (free_vertex d v)
  unfolding free_vertex with_vertex_grandson with_vertex_holder with_vertices
  before-free-vertex d v h = record {
    sides = h.sides;
    vertices = λ u m ne e. h.vertices u m ne (set_before d.vertices.vertex_holder v 0 u (m + 1) (λ z. omega arith) e);
  }

  before-held-side : (d : State) (s g : ℕ) → HeldBefore n c d → HeldBefore n c (held_side d s n g)
  unfolding held_side with_grandson with_holder with_sides
  before-held-side d s g h = record {
    sides = λ t m ne e. h.sides t m ne (set_before d.sides.holder s (n + 1) t (m + 1) (λ z. ne (omega arith)) e);
    vertices = h.vertices;
  }

  before-held-vertex : (d : State) (v g : ℕ) → HeldBefore n c d → HeldBefore n c (held_vertex d v n g)
  unfolding held_vertex with_vertex_grandson with_vertex_holder with_vertices
  before-held-vertex d v g h = record {
    sides = h.sides;
    vertices = λ u m ne e. h.vertices u m ne (set_before d.vertices.vertex_holder v (n + 1) u (m + 1) (λ z. ne (omega arith)) e);
  }

  before_finish : (w : Work) → HeldBefore n c w.state → HeldBefore n c (finish_pass w n)
  unfolding finish_pass with_overgrown with_boundary with_nodes
  before_finish w h = record { sides = h.sides; vertices = h.vertices }

  before-pass : (d : State) (e : ℕ) → HeldBefore n c d → HeldBefore n c (pass_state d n e)
  before-pass d e h =
      before_finish (one_pass d n e)
      (pass-in n (HeldBefore n c) before-free-side before-free-vertex before-held-side before-held-vertex d e h)

  from-before : (fuel : ℕ) (d : State) (e k : ℕ) → HeldBefore n c d → HeldBefore n c (prepare_from fuel d n e k).state
  from-before zero d e k h = unfold prepare_from in h
  from-before (suc fuel) d e k h =
      by-test (one_pass d n e).another
      (λ a. rw (prepare-more fuel d n e k a) (from-before fuel (pass_state d n e) e (k + 1) (before-pass d e h)))
      (λ a. rw (prepare-last fuel d n e k a) (before-pass d e h))

pub prepare-before : (c : State) (n d : ℕ) → HeldBefore n c (prepare_node c n d).state
unfolding prepare_node
prepare-before c n d = from-before n c (suc (vertex_count c)) c d 0 (record { sides = λ t m ne e. e; vertices = λ u m ne e. e })

-- A shrinking pass holds nothing: no holder of a side rises above what it was.
use Rattle.std.specs.Prelude.{ℕ, ◌+◌, ◌≤◌, ◌&&◌, length}
use Rattle.std.proofs.Common.{arith, get_or-set_other}
use Rattle.std.proofs.Math.Decide.{ℕ_discrete as dec_eq, dec_lt}
use Rattle.std.proofs.Math.Dec.{eqb}
use Rattle.std.proofs.Math.Seq.{get_or-set_same, set_out}
use Rattle.graph.specs.Basic.{member}
use Rattle.graph.specs.State.{State, opposite, end_at, growth_at, holder_at, sides_at, defect_at, vertex_holder_at, boundary_of, overgrown_of, with_sides, with_holder, with_grandson, with_vertices, with_vertex_holder, with_vertex_grandson, free_side, free_vertex, with_nodes, with_boundary, with_overgrown}
use Rattle.graph.specs.laws.State.{if-both, fold-keeps}
use Rattle.pass.specs.Work.{Work, on_state, keep, keep_once, note, call_another, start_pass, finish_pass}
use Rattle.pass.specs.Shrink.{empty_tops, below_tops, drop_side, drop_step, shrink_step, closed, release_side, release_step, dropped, shrink_scanned, shrink_pass}

-- no holder of a side is above k
abbrev pub Holders : ℕ → State → Type 0
Holders k c = (s : ℕ) → holder_at c s ≤ k

module _ (k : ℕ) where
  holders-free-side : (c : State) (t : ℕ) → Holders k c → Holders k (free_side c t)
  unfolding free_side with_grandson with_holder with_sides
  holders-free-side c t p s =
      elim (dec_eq s t) [
        | no e ↦ rw (get_or-set_other c.sides.holder t s 0 0 e) (p s)
        | yes e ↦ elim
            (dec_lt t (length c.sides.holder)) [
              | yes b ↦ rw (e, get_or-set_same c.sides.holder t 0 0 b) (omega arith)
              | no b ↦ rw (set_out c.sides.holder t 0 (omega arith)) (p s)
            ]
      ]

  holders-free-vertex : (c : State) (v : ℕ) → Holders k c → Holders k (free_vertex c v)
  unfolding free_vertex with_vertex_grandson with_vertex_holder with_vertices
  holders-free-vertex c v p = p

  abbrev In : Work → Type 0
  In w = Holders k w.state

  in-keep-once : (w : Work) (s : ℕ) → In w → In (keep_once w s)
  unfolding keep_once keep
  in-keep-once w s p = if-both In (member s w.kept) p p

  in-drop-side : (w : Work) (t : ℕ) → In w → In (drop_side w t)
  unfolding drop_side call_another on_state
  in-drop-side w t p = in-keep-once (on_state w (free_side w.state t)) (opposite t) (holders-free-side w.state t p)

  in-drop-step : (n : ℕ) (w : Work) (v : ℕ) → In w → In (drop_step n w v)
  unfolding drop_step on_state
  in-drop-step n w v p =
      if-both In (eqb (vertex_holder_at w.state v) (n + 1))
      (fold-keeps drop_side In in-drop-side (on_state w (free_vertex w.state v)) (sides_at w.state v) (holders-free-vertex w.state v p))
      p

  in-shrink-step : (w : Work) (s : ℕ) → In w → In (shrink_step w s)
  unfolding shrink_step note
  in-shrink-step w s p = if-both In (eqb (growth_at w.state s) 0 && eqb (defect_at w.state (end_at w.state s)) 0) p (in-keep-once w s p)

  in-release-side : (n : ℕ) (w : Work) (t : ℕ) → In w → In (release_side n w t)
  unfolding release_side call_another on_state
  in-release-side n w t p =
      let q : Holders k (free_side w.state t) = holders-free-side w.state t p in
      if-both In (closed n w.state t) (in-keep-once (on_state w (free_side w.state t)) (opposite t) q) q

  in-release-step : (n : ℕ) (w : Work) (v : ℕ) → In w → In (release_step n w v)
  unfolding release_step on_state
  in-release-step n w v p =
      if-both In (eqb (vertex_holder_at w.state v) 0)
      p
      (fold-keeps (release_side n) In (in-release-side n) (on_state w (free_vertex w.state v)) (sides_at w.state v) (holders-free-vertex w.state v p))

  in-dropped : (c : State) (n : ℕ) → Holders k c → In (dropped c n)
  unfolding dropped start_pass
  in-dropped c n p = fold-keeps (drop_step n) In (in-drop-step n) (start_pass c (below_tops (overgrown_of c n))) (empty_tops (overgrown_of c n)) p

  in-scanned : (c : State) (n : ℕ) → Holders k c → In (shrink_scanned c n)
  unfolding shrink_scanned
  in-scanned c n p = fold-keeps shrink_step In in-shrink-step (dropped c n) (boundary_of c n) (in-dropped c n p)

  in-pass : (c : State) (n : ℕ) → Holders k c → In (shrink_pass c n)
  unfolding shrink_pass
  in-pass c n p = fold-keeps (release_step n) In (in-release-step n) (shrink_scanned c n) (shrink_scanned c n).noted (in-scanned c n p)

  pub shrink-pass-holders : (c : State) (n : ℕ) → Holders k c → Holders k (finish_pass (shrink_pass c n) n)
  unfolding finish_pass with_overgrown with_boundary with_nodes
  shrink-pass-holders c n p = in-pass c n p

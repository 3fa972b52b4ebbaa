-- Holders and grandsons stay in range through a pass, with a defect node as grandson on each held side; so do overgrown entries.
use Rattle.std.specs.Prelude.{ℕ, ◌+◌, ◌≤◌, ◌<◌, ◌≡◌, ◌≢◌, Bool, true, ◌&&◌, List, [], ◌∷◌, ltb, length, get_or, set}
use Rattle.std.proofs.Common.{arith, sym, ◌∙◌, length-set, get_or-set_same, get_or-set_other}
use Rattle.std.proofs.Math.Decide.{ℕ_discrete as dec_eq, dec_lt}
use Rattle.std.proofs.Math.Logic.{by_cases}
use Rattle.std.proofs.Math.Dec.{eqb, leb}
use Rattle.std.proofs.Math.Seq.{set_out}
use Rattle.graph.specs.Basic.{all}
use Rattle.graph.specs.State.{State, Overgrown, opposite, vertex_count, side_count, node_count, end_at, growth_at, holder_at, grandson_at, vertex_holder_at, vertex_grandson_at, defect_at, sides_at, boundary_of, overgrown_of, with_sides, with_vertices, with_holder, with_grandson, with_vertex_holder, with_vertex_grandson, free_side, free_vertex}
use Rattle.graph.specs.laws.State.{if-both, and_right, fold-keeps, kept_refl}
use Rattle.graph.specs.laws.Members.{by-test, all_weaker}
use Rattle.graph.specs.Open.{dual_limit}
use Rattle.graph.specs.Sound.{stored_defect, over_sound}
use Rattle.pass.specs.Work.{Work, on_state, keep_once, note, call_another, start_pass}
use Rattle.pass.specs.Grow.{grow_pass}
use Rattle.pass.specs.Shrink.{empty_tops, below_tops, drop_side, drop_step, shrink_step, closed, release_side, release_step, dropped, shrink_scanned, shrink_pass}
use Rattle.pass.specs.inner.Own.{OwnSides}
use Rattle.graph.specs.Shape.{Shape}
use Rattle.pass.proofs.laws.GrowSound.{Grown, Takings, sound-paired, grow-pass-grown}
use Rattle.reachable.specs.laws.shrink.FreeSides.{side-freed, keep-once-state}

-- ---- sides and vertices freed

set-le : (l : List ℕ) (i x m t : ℕ) → x ≤ m → get_or l t 0 ≤ m → get_or (set l i x) t 0 ≤ m
set-le l i x m t a b =
    by_cases (dec_eq t i)
    (λ e. by_cases (dec_lt i (length l)) (λ h. rw (e, get_or-set_same l i x 0 h) a) (λ h. rw (set_out l i x (omega arith)) b))
    (λ e. rw (get_or-set_other l i t x 0 e) b)

-- the numbers of d are in the range of the nodes of c
pub record HoldersInRange (c d : State) : Type 0 where
  pub holder : (t : ℕ) → holder_at d t ≤ node_count c
  pub grandson : (t : ℕ) → grandson_at d t ≤ node_count c
  pub vertex_holder : (u : ℕ) → vertex_holder_at d u ≤ node_count c
  pub vertex_grandson : (u : ℕ) → vertex_grandson_at d u ≤ node_count c
  pub stored : (t : ℕ) → holder_at d t ≢ 0 → stored_defect c (grandson_at d t) ≡ true
  pub lengths : length d.sides.holder ≡ length d.sides.grandson

free-stored : (c d : State) (s : ℕ) → HoldersInRange c d → (t : ℕ) → holder_at (free_side d s) t ≢ 0 → stored_defect c (grandson_at (free_side d s) t) ≡ true
unfolding free_side with_grandson with_holder with_sides
free-stored c d s r t e =
    by_cases (dec_eq t s)
    (λ a. absurd (e (rw a (unfold free_side with_grandson with_holder with_sides in (side-freed d s)))))
    (λ a.
    rw (get_or-set_other d.sides.grandson s t 0 0 a)
    (r.stored t (λ b. e (get_or-set_other d.sides.holder s t 0 0 a ∙ b))))

pub in-range-free-side : (c d : State) (s : ℕ) → HoldersInRange c d → HoldersInRange c (free_side d s)
unfolding free_side with_grandson with_holder with_sides
in-range-free-side c d s r = record {
  holder = λ t. set-le d.sides.holder s 0 (node_count c) t (omega arith) (r.holder t);
  grandson = λ t. set-le d.sides.grandson s 0 (node_count c) t (omega arith) (r.grandson t);
  vertex_holder = r.vertex_holder;
  vertex_grandson = r.vertex_grandson;
  stored = free-stored c d s r;
  lengths = length-set d.sides.holder s 0 ∙ r.lengths ∙ sym (length-set d.sides.grandson s 0);
}

pub in-range-free-vertex : (c d : State) (v : ℕ) → HoldersInRange c d → HoldersInRange c (free_vertex d v)
unfolding free_vertex with_vertex_grandson with_vertex_holder with_vertices
in-range-free-vertex c d v r = record {
  holder = r.holder;
  grandson = r.grandson;
  vertex_holder = λ u. set-le d.vertices.vertex_holder v 0 (node_count c) u (omega arith) (r.vertex_holder u);
  vertex_grandson = λ u. set-le d.vertices.vertex_grandson v 0 (node_count c) u (omega arith) (r.vertex_grandson u);
  stored = r.stored;
  lengths = r.lengths;
}

-- ---- shrinking

module _ (c : State) where
  abbrev In : Work → Type 0
  In w = HoldersInRange c w.state

  in-once : (w : Work) (s : ℕ) → HoldersInRange c w.state → HoldersInRange c (keep_once w s).state
  in-once w s r = rw (keep-once-state w s) r

  in-drop-side : (w : Work) (t : ℕ) → HoldersInRange c w.state → HoldersInRange c (drop_side w t).state
  unfolding drop_side call_another
  in-drop-side w t r = in-once (on_state w (free_side w.state t)) (opposite t) (unfold on_state in (in-range-free-side c w.state t r))

  in-drop-step : (n : ℕ) (w : Work) (v : ℕ) → HoldersInRange c w.state → HoldersInRange c (drop_step n w v).state
  unfolding drop_step
  in-drop-step n w v r =
      if-both In (eqb (vertex_holder_at w.state v) (n + 1))
      (fold-keeps drop_side In in-drop-side (on_state w (free_vertex w.state v)) (sides_at w.state v)
      (unfold on_state in (in-range-free-vertex c w.state v r)))
      r

  in-shrink-step : (w : Work) (s : ℕ) → HoldersInRange c w.state → HoldersInRange c (shrink_step w s).state
  unfolding shrink_step note
  in-shrink-step w s r = if-both In (eqb (growth_at w.state s) 0 && eqb (defect_at w.state (end_at w.state s)) 0) r (in-once w s r)

  in-release-side : (n : ℕ) (w : Work) (t : ℕ) → HoldersInRange c w.state → HoldersInRange c (release_side n w t).state
  unfolding release_side call_another
  in-release-side n w t r =
      let a : HoldersInRange c (on_state w (free_side w.state t)).state = unfold on_state in (in-range-free-side c w.state t r) in
      if-both In (closed n w.state t) (in-once (on_state w (free_side w.state t)) (opposite t) a) a

  in-release-step : (n : ℕ) (w : Work) (v : ℕ) → HoldersInRange c w.state → HoldersInRange c (release_step n w v).state
  unfolding release_step
  in-release-step n w v r =
      if-both In (eqb (vertex_holder_at w.state v) 0) r
      (fold-keeps (release_side n) In (in-release-side n) (on_state w (free_vertex w.state v)) (sides_at w.state v)
      (unfold on_state in (in-range-free-vertex c w.state v r)))

  pub shrink-in-range : (n : ℕ) → HoldersInRange c c → HoldersInRange c (shrink_pass c n).state
  unfolding shrink_pass shrink_scanned dropped start_pass
  shrink-in-range n r =
      let a : In (dropped c n) = fold-keeps (drop_step n) In (in-drop-step n) (start_pass c (below_tops (overgrown_of c n))) (empty_tops (overgrown_of c n)) r in
      let b : In (shrink_scanned c n) = fold-keeps shrink_step In in-shrink-step (dropped c n) (boundary_of c n) a in
      fold-keeps (release_step n) In (in-release-step n) (shrink_scanned c n) (shrink_scanned c n).noted b

-- ---- growing

-- a growing pass takes only what is free, for defect nodes
module _ (c : State) (z : Shape c) (n : ℕ) (b : n < node_count c) (r : HoldersInRange c c)
    (own : OwnSides n (side_count c) c (boundary_of c n)) (over : all (over_sound c) (overgrown_of c n) ≡ true) where
  nothing-taken : Grown c c
  nothing-taken =
      record {
        keeps = kept_refl c;
        stays = λ t m e. e;
        vstays = λ v m e. e;
        holder = r.holder;
        grandson = r.grandson;
        defect = r.stored;
        vertex_holder = r.vertex_holder;
        vertex_grandson = r.vertex_grandson;
      }

  taken : Takings c n (grow_pass c n) []
  unfolding over_sound
  taken = grow-pass-grown c (sound-paired c z) n (side_count c) b nothing-taken own
      (all_weaker (over_sound c) (λ (o : Overgrown). leb o.amount dual_limit)
      (λ o e. and_right (ltb o.vertex (vertex_count c)) (leb o.amount dual_limit) e) (overgrown_of c n) over)

  pub grow-in-range : HoldersInRange c (grow_pass c n).state
  grow-in-range =
      let g : Grown c (grow_pass c n).state = taken.grown in
      record {
        holder = g.holder;
        grandson = g.grandson;
        vertex_holder = g.vertex_holder;
        vertex_grandson = g.vertex_grandson;
        stored = g.defect;
        lengths = g.keeps.holder ∙ r.lengths ∙ sym g.keeps.grandson;
      }

  pub grow-amounts : all (λ (o : Overgrown). leb o.amount dual_limit) (grow_pass c n).over ≡ true
  grow-amounts = taken.amounts

-- ---- the overgrown entries

pub below_all : (p : Overgrown → Bool) (st : List Overgrown) → all p st ≡ true → all p (below_tops st) ≡ true
unfolding below_tops all
below_all p [] h = h
below_all p (o ∷ os) h =
    by-test (eqb o.amount 0)
    (λ e. rw e (below_all p os (and_right (p o) (all p os) h)))
    (λ e. rw e h)

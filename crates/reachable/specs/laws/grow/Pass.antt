-- A growing pass over node n keeps the invariant, and every listed side held. If it calls for no other, nothing is left to be taken.
use Rattle.std.specs.Prelude.{ℕ, ◌+◌, ◌<◌, ◌≡◌, refl, ◌≢◌, ◌⊎◌, true, false, [], length}
use Rattle.std.proofs.Math.Decide.{ℕ_discrete as dec_eq}
use Rattle.std.proofs.Common.{sym, ◌∙◌, ⊎_elim}
use Rattle.std.proofs.Math.Logic.{by_cases}
use Rattle.graph.specs.Basic.{member}
use Rattle.graph.specs.State.{State, opposite, end_at, growth_at, holder_at, vertex_holder_at, virtual_at, weight_over, dual_of}
use Rattle.graph.specs.laws.State.{fold-keeps-rest, opposite-opposite}
use Rattle.graph.specs.inner.Kept.{SameButHolders}
use Rattle.graph.specs.laws.Members.{clash, member-nil}
use Rattle.pass.specs.Work.{Work}
use Rattle.pass.specs.Grow.{take_step, grow_scanned, grow_pass}
use Rattle.reachable.specs.laws.grow.TakeVertex.{take_step_lem}
use Rattle.reachable.specs.Cluster.{SideGraph, View, Global, NodeInvariant}
use Rattle.reachable.specs.laws.invariant.Depth.{within-weight-by}
use Rattle.reachable.specs.laws.invariant.Frame.{Frame, frame-node, fewer-node}
use Rattle.reachable.specs.Invariant.{Labels, side_graph_of, view_of, NodeInvariantOf, BoundaryHeld}
use Rattle.reachable.specs.laws.state.GraphOk.{GraphOk}
use Rattle.reachable.specs.laws.grow.Scan.{Scanning}
use Rattle.reachable.specs.laws.grow.Taking.{noted, counted_holder, counted-free, counted-held, in_kept, pending, listing-of, of-listing, seen, node_view_in, Growing, begin}
use Rattle.reachable.specs.laws.state.Views.{view_during}

module _ (c : State) (n : ℕ) (k : Labels) (graph-ok : GraphOk c.graph)
    (g : Global (side_graph_of c.graph) (view_of c k)) (i : NodeInvariantOf c k n) (boundary-held : BoundaryHeld c n)
    (sc : Scanning c n (grow_scanned c n) []) (holders : length c.sides.holder ≡ length c.graph.end)
    (vertex-holders : (t : ℕ) → end_at c t < length c.vertices.vertex_holder) where
  abbrev Q : SideGraph
  Q = side_graph_of c.graph

  -- ---- the pass

  pub record GrowDone (w : Work) : Type 0 where
    pub labels : Labels
    pub keeps : SameButHolders c w.state
    pub global : Global (side_graph_of c.graph) (view_during c labels w)
    pub node : NodeInvariant (side_graph_of c.graph) (view_during c labels w) n
        (record { listed = λ s. member s w.kept; stack = w.over; base = k.base n; dual = dual_of c n })
    pub held : (s : ℕ) → member s w.kept ≡ true → holder_at w.state s ≡ n + 1
    pub real : (u : ℕ) → (vertex_holder_at w.state u ≡ vertex_holder_at c u) ⊎ (virtual_at c u ≡ 0)
    pub nothing-to-take : w.another ≡ false → (s : ℕ) → member s w.kept ≡ true
        → holder_at w.state (opposite s) ≡ 0 → growth_at c s + growth_at c (opposite s) ≡ weight_over c s
        → virtual_at c (end_at c (opposite s)) ≢ 0
    pub sides : (t : ℕ) → (holder_at w.state t ≡ holder_at c t) ⊎ ((holder_at c t ≡ 0) × (holder_at w.state t ≡ n + 1))
    pub vertices : (u : ℕ) → (vertex_holder_at w.state u ≡ vertex_holder_at c u) ⊎ ((vertex_holder_at c u ≡ 0) × (vertex_holder_at w.state u ≡ n + 1))
    pub base : labels.base ≡ k.base
    pub same : (u : ℕ) → vertex_holder_at c u ≢ 0 → (labels.depth u ≡ k.depth u) × (labels.rank u ≡ k.rank u) × (labels.owner u ≡ k.owner u)

  ended : Growing c n k (grow_pass c n) []
  unfolding grow_pass
  ended =
      fold-keeps-rest (take_step n) (Growing c n k) (take_step_lem c n k graph-ok g i boundary-held sc holders vertex-holders)
      (grow_scanned c n) (noted c n) (begin c n k graph-ok g i boundary-held sc)

  pub grow-done : GrowDone (grow_pass c n)
  grow-done =
      let w : Work = grow_pass c n in
      let j : Growing c n k w [] = ended in
      let h : Labels = j.labels in
      let last : (s : ℕ) → member s (noted c n) ≡ true → vertex_holder_at w.state (end_at c (opposite s)) ≢ 0 =
      λ s m. ⊎_elim (λ (a : member s [] ≡ true). member-nil s a)
      (λ (a : vertex_holder_at w.state (end_at c (opposite s)) ≢ 0). a) (j.done s m) in
      let now : (t : ℕ) → counted_holder c n w t ≡ holder_at w.state t =
      λ t.
      by_cases (dec_eq (vertex_holder_at w.state (end_at c t)) 0)
      (λ e.
      counted-free c n w t e
      ∙ by_cases (dec_eq (holder_at w.state t) 0) (λ a. sym a)
      (λ a. let f : vertex_holder_at w.state (end_at c (opposite (opposite t)))
      ≢ 0 = last (opposite t) (j.across-noted t a e) in
      absurd ((rw (opposite-opposite t) at f) e)))
      (λ e. counted-held c n w t e) in
      let y : View = view_during c h w in
      let f : Frame Q (seen c n k w h) y n = record {
        holder = λ t e. sym (now t) ∙ e;
        holder-back = λ t e. now t ∙ e;
        vertex_holder = λ u e. e;
        vertex-holder-back = λ u e. e;
        growth = λ t e. refl;
        end = λ t e. record { defect = refl; depth = refl; rank = refl; owner = refl };
        vertex = λ u e. record { defect = refl; depth = refl; rank = refl; owner = refl };
      } in
      let g' : Global Q (seen c n k w h) = j.global in
      record {
        labels = h;
        keeps = j.keeps;
        global = record {
          side-below = λ t e. g'.side-below t (λ a. e (sym (now t) ∙ a));
          held-side = λ t e. g'.held-side t (λ a. e (sym (now t) ∙ a));
          held-vertex = λ t b e a. g'.held-vertex t b e (now t ∙ a);
          free = λ t e. g'.free t (now t ∙ e);
          defects = g'.defects;
          ranks = g'.ranks;
          within-weight = λ t b. within-weight-by (g'.within-weight t b) (sym (now t)) (sym (now (opposite t)));
          differ = g'.differ;
        };
        node =
            fewer-node Q y n (node_view_in c n k w)
            (record { listed = λ s. member s w.kept; stack = w.over; base = k.base n; dual = dual_of c n })
            (frame-node Q (seen c n k w h) y n (node_view_in c n k w) f j.node j.held) refl refl refl
            (λ s e. of-listing c n w s (in_kept e))
            (λ s e a. elim (listing-of c n w s e) [ in_kept b ↦ clash (member s w.kept) b a | pending b d ↦ absurd (last s b d) ]);
        held = λ s e. sym (now s) ∙ j.held s (of-listing c n w s (in_kept e));
        real = j.real;
        nothing-to-take = λ q s m e f v.
            let z : holder_at c (opposite s) ≡ 0 =
            ⊎_elim (λ (b : holder_at w.state (opposite s) ≡ holder_at c (opposite s)). sym b ∙ e)
            (λ (b : (holder_at c (opposite s) ≡ 0) × (holder_at w.state (opposite s) ≡ n + 1)). b.0)
            (j.sides (opposite s)) in
            clash w.another (j.nothing-to-take s m z f v).1 q;
        sides = j.sides;
        vertices = j.vertices;
        base = j.base;
        same = j.same;
      }

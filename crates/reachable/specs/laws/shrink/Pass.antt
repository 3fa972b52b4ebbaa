-- A shrinking pass over node n keeps the invariant; the sides that it lists may be free if it calls for another pass, and are held if not.
use Rattle.std.specs.Prelude.{ℕ, ◌+◌, ◌≤◌, ◌<◌, ◌≡◌, ◌≢◌, ◌⊎◌, true, ◌&&◌, ◌||◌, leb, length}
use Rattle.std.proofs.Common.{arith, ◌∙◌}
use Rattle.std.proofs.Math.Decide.{ℕ_discrete as dec_eq}
use Rattle.std.proofs.Math.Path.{refl, sym}
use Rattle.std.proofs.Math.Logic.{inl, inr, ⊎_elim, by_cases}
use Rattle.std.proofs.Math.Bool.{false}
use mathlib.Core.List.{List, [], ◌∷◌}
use Rattle.std.proofs.Math.Dec.{eqb}
use borrow.Author.Tests.{eqb-true, eqb-false, eq-eqb, leb-true, le-leb}
use Rattle.graph.specs.Basic.{fold, member, distinct}
use Rattle.graph.specs.State.{State, Overgrown, opposite, end_at, growth_at, holder_at, vertex_holder_at, defect_at, sides_at, weight_over, grown_over, dual_of, boundary_of, overgrown_of, free_vertex}
use Rattle.graph.specs.laws.State.{if-both, if-cases, and_left, and_right, fold-keeps, fold-keeps-rest, kept_refl, kept_trans, kept-free-vertex, opposite-opposite}
use Rattle.graph.specs.inner.Kept.{SameButHolders}
use Rattle.graph.specs.laws.Members.{by-test, clash, both, or_cases, or_left, or_right, member-head, member-tail, member-cons, member-nil, member-append, member-append-left, member-append-right}
use Rattle.pass.specs.Work.{Work, on_state, keep_once, note, start_pass}
use Rattle.pass.specs.Shrink.{empty_tops, below_tops, drop_side, drop_step, shrink_step, closed, release_side, release_step, dropped, shrink_scanned, shrink_pass}
use Rattle.reachable.specs.Cluster.{SideGraph, stacked, Global, OutwardEdge, InwardEdge, OvergrownVertex, NodeInvariant}
use Rattle.reachable.specs.laws.invariant.Release.{with_listed, Relisted}
use Rattle.reachable.specs.laws.invariant.Frame.{fewer-node}
use Rattle.reachable.specs.laws.shrink.FreeSides.{vertex-freed, vertex-other, vertex-sides, always, drop-freeing, release-freeing, always-test, closed-test, Full, closed-full, full-closed, SidesFreed, free-sides, keep-once-still, keep-once-in, keep-once-new, keep-once-state, keep-once-another, keep-once-noted}
use Rattle.reachable.specs.Invariant.{Labels, side_graph_of, view_of, node_view_of, NodeInvariantOf}
use Rattle.reachable.specs.laws.state.GraphOk.{GraphOk}
use Rattle.reachable.specs.laws.shrink.ReleaseVertex.{below-radius, Shrinking, vertex-released, drop_all, listed_during, node_view_during}
use Rattle.reachable.specs.laws.state.Views.{view_during}

module _ (c : State) (n : ℕ) (k : Labels) (graph-ok : GraphOk c.graph) where
  abbrev Q : SideGraph
  Q = side_graph_of c.graph

  abbrev pub Running : List Overgrown → Work → Type 0
  Running st w = Shrinking c n k graph-ok st w

  -- ---- the boundary

  -- why a vertex is noted
  pub record NotedVertex (v : ℕ) : Type 0 where
    pub side : ℕ
    pub listed : member side (boundary_of c n) ≡ true
    pub at : end_at c side ≡ v
    pub zero : growth_at c side ≡ 0
    pub plain : defect_at c v ≡ 0

  -- what became of a boundary side
  pub data KeptOrNoted (w : Work) (s : ℕ) : Type 0 where
    kept_here : member s w.kept ≡ true → KeptOrNoted w s
    noted_here : member (end_at c s) w.noted ≡ true → KeptOrNoted w s

  pub record Scanning (st : List Overgrown) (w : Work) (r : List ℕ) : Type 0 where
    pub running : Running st w
    pub sub : (s : ℕ) → member s r ≡ true → member s (boundary_of c n) ≡ true
    pub noted-vertex : (v : ℕ) → member v w.noted ≡ true → NotedVertex v
    pub kept-or-noted : (s : ℕ) → member s (boundary_of c n) ≡ true → (member s r ≡ true) ⊎ KeptOrNoted w s

  module _ (st : List Overgrown) (w : Work) (s : ℕ) (r : List ℕ) (i : Scanning st w (s ∷ r)) where
    here : member s (boundary_of c n) ≡ true
    here = i.sub s (member-head s r)

    later-sub : (t : ℕ) → member t r ≡ true → member t (boundary_of c n) ≡ true
    later-sub t m = i.sub t (member-tail t s r m)

    -- side s is kept
    scan-keep : (growth_at c s ≡ 0 → defect_at c (end_at c s) ≡ 0 → w.another ≡ true) → Scanning st (keep_once w s) r
    scan-keep zero-calls-another =
        let run : Running st w = i.running in
        let state : (keep_once w s).state ≡ w.state = keep-once-state w s in
        record {
          running = record {
            keeps = rw state run.keeps;
            global = rw state run.global;
            node = rw state (fewer-node Q (view_during c k w) n (node_view_during c n k w st) (node_view_during c n k (keep_once w s) st) run.node refl refl refl
                (λ t e.
                or_cases (member t (keep_once w s).kept) (member t (boundary_of c n)) e
                (λ a. ⊎_elim (λ (b : member t w.kept ≡ true). or_left (member t w.kept) (member t (boundary_of c n)) b)
                (λ (b : t ≡ s). or_right (member t w.kept) (member t (boundary_of c n)) (rw b here)) (keep-once-new w s t a))
                (λ a. or_right (member t w.kept) (member t (boundary_of c n)) a))
                (λ t e f.
                or_cases (member t w.kept) (member t (boundary_of c n)) e
                (λ a. clash (listed_during c n (keep_once w s) t)
                (or_left (member t (keep_once w s).kept) (member t (boundary_of c n)) (keep-once-still w s t a)) f)
                (λ a. clash (listed_during c n (keep_once w s) t) (or_right (member t (keep_once w s).kept) (member t (boundary_of c n)) a) f)));
            zero-calls-another = λ t m g d. keep-once-another w s
                ∙ ⊎_elim (λ (b : member t w.kept ≡ true). run.zero-calls-another t b g d)
                (λ (b : t ≡ s). zero-calls-another (rw b at g) (rw b at d)) (keep-once-new w s t m);
            sides = λ t. rw state (run.sides t);
            vertices = λ u. rw state (run.vertices u);
          };
          sub = later-sub;
          noted-vertex = λ v m. i.noted-vertex v (rw (keep-once-noted w s) at m);
          kept-or-noted = λ t m.
              ⊎_elim
              (λ (a : member t (s ∷ r) ≡ true). member-cons t s r a (λ b. inr (kept_here (rw b (keep-once-in w s)))) (λ b. inl b))
              (λ (a : KeptOrNoted w t). inr
              (elim a [ kept_here b ↦ kept_here (keep-once-still w s t b) | noted_here b ↦ noted_here (rw (keep-once-noted w s) b) ]))
              (i.kept-or-noted t m);
        }

    -- its vertex is noted
    scan-note : growth_at c s ≡ 0 → defect_at c (end_at c s) ≡ 0 → Scanning st (note w (end_at c s)) r
    unfolding note
    scan-note g d =
        let run : Running st w = i.running in
        record {
          running =
              record {
                keeps = run.keeps;
                global = run.global;
                node = run.node;
                zero-calls-another = run.zero-calls-another;
                sides = run.sides;
                vertices = run.vertices;
              };
          sub = later-sub;
          noted-vertex = λ v m.
              member-append v w.noted (end_at c s ∷ []) m (λ a. i.noted-vertex v a)
              (λ a. member-cons v (end_at c s) [] a (λ b. record { side = s; listed = here; at = sym b; zero = g; plain = rw b d }) (λ b. member-nil v b));
          kept-or-noted = λ t m.
              ⊎_elim
              (λ (a : member t (s ∷ r) ≡ true). member-cons t s r a
              (λ b. inr (noted_here (rw b (member-append-right (end_at c s) w.noted (end_at c s ∷ []) (member-head (end_at c s) [])))))
              (λ b. inl b))
              (λ (a : KeptOrNoted w t). inr
              (elim
              a [
                | kept_here b ↦ kept_here b
                | noted_here b ↦ noted_here (member-append-left (end_at c t) w.noted (end_at c s ∷ []) b)
              ]))
              (i.kept-or-noted t m);
        }

  scan_step : (st : List Overgrown) (w : Work) (s : ℕ) (r : List ℕ) → Scanning st w (s ∷ r) → Scanning st (shrink_step w s) r
  unfolding shrink_step
  scan_step st w s r i =
      let kp : SameButHolders c w.state = i.running.keeps in
      let g : growth_at w.state s ≡ growth_at c s = rw kp.growth in
      let e : end_at w.state s ≡ end_at c s = rw kp.graph in
      let d : defect_at w.state (end_at w.state s) ≡ defect_at c (end_at c s) = rw (kp.defect, e) in
      if-cases (λ (z : Work). Scanning st z r) (eqb (growth_at w.state s) 0 && eqb (defect_at w.state (end_at w.state s)) 0)
      (λ t.
      rw e (scan-note st w s r i
      (sym g ∙ eqb-true _ _ (and_left (eqb (growth_at w.state s) 0) (eqb (defect_at w.state (end_at w.state s)) 0) t))
      (sym d ∙ eqb-true _ _ (and_right (eqb (growth_at w.state s) 0) (eqb (defect_at w.state (end_at w.state s)) 0) t))))
      (λ t.
      scan-keep st w s r i
      (λ a b. clash (eqb (growth_at w.state s) 0 && eqb (defect_at w.state (end_at w.state s)) 0)
      (both (eqb (growth_at w.state s) 0) (eqb (defect_at w.state (end_at w.state s)) 0) (eq-eqb _ _ (g ∙ a))
      (eq-eqb _ _ (d ∙ b)))
      t))

  -- ---- the noted vertices

  pub record Releasing (st : List Overgrown) (z w : Work) (r : List ℕ) : Type 0 where
    pub running : Running st w
    pub sub : (v : ℕ) → member v r ≡ true → member v z.noted ≡ true
    pub still : (s : ℕ) → member s z.kept ≡ true → member s w.kept ≡ true
    pub released : (v : ℕ) → member v z.noted ≡ true → (member v r ≡ true) ⊎ (vertex_holder_at w.state v ≡ 0)

  module _ (st : List Overgrown) (z w : Work) (v : ℕ) (r : List ℕ) (noted-vertex : NotedVertex v)
      (lower : (u : ℕ) → member u (stacked st) ≡ true → k.depth u < k.base n + dual_of c n) (i : Releasing st z w (v ∷ r)) where
    run : Running st w
    run = i.running

    release-free : vertex_holder_at w.state v ≡ 0 → Releasing st z w r
    release-free e = record {
      running = run;
      sub = λ u m. i.sub u (member-tail u v r m);
      still = i.still;
      released = λ u m. ⊎_elim (λ (a : member u (v ∷ r) ≡ true). member-cons u v r a (λ b. inr (rw b e)) (λ b. inl b))
          (λ (a : vertex_holder_at w.state u ≡ 0). inr a) (i.released u m);
    }

    listed-now : listed_during c n w noted-vertex.side ≡ true
    listed-now = or_right (member noted-vertex.side w.kept) (member noted-vertex.side (boundary_of c n)) noted-vertex.listed

    side-held : vertex_holder_at w.state v ≢ 0 → holder_at w.state noted-vertex.side ≡ n + 1
    side-held e =
        let h : holder_at w.state noted-vertex.side ≢ 0 =
        run.global.held-vertex noted-vertex.side (run.node.within noted-vertex.side listed-now) (rw noted-vertex.at e) in
        by_cases (dec_eq (holder_at w.state noted-vertex.side) (n + 1)) (λ a. a) (λ a. absurd (h (run.node.held noted-vertex.side listed-now a)))

    at-radius-of : vertex_holder_at w.state v ≢ 0 → k.depth v ≡ k.base n + dual_of c n
    at-radius-of e =
        let l : k.depth (end_at c noted-vertex.side) + growth_at c noted-vertex.side ≡ k.base n + dual_of c n =
        run.node.listed-growth noted-vertex.side listed-now (side-held e) in
        let l' : k.depth v + growth_at c noted-vertex.side ≡ k.base n + dual_of c n = rw noted-vertex.at at l in
        omega (arith, noted-vertex.zero)

    own-side : vertex_holder_at w.state v ≢ 0 → vertex_holder_at w.state v ≡ n + 1
    own-side e =
        by_cases (dec_eq (vertex_holder_at w.state v) (n + 1)) (λ a. a)
        (λ a.
        let d : k.depth (end_at c noted-vertex.side) < k.base n =
        run.node.inside-blossom noted-vertex.side (side-held e) (rw noted-vertex.at a)
        (rw noted-vertex.at noted-vertex.plain) in
        let d' : k.depth v < k.base n = rw noted-vertex.at at d in
        absurd (omega (arith, at-radius-of e)))

    vertex_freed : Work
    vertex_freed = on_state w (free_vertex w.state v)

    freed-same : (t : ℕ) → holder_at vertex_freed.state t ≡ holder_at w.state t
    unfolding vertex_freed on_state
    freed-same t = rw (vertex-sides w.state v)

    freed-kept : SameButHolders c vertex_freed.state
    unfolding vertex_freed on_state
    freed-kept = kept_trans run.keeps (kept-free-vertex w.state v)

    over-same : (t : ℕ) → leb (weight_over vertex_freed.state t) (grown_over vertex_freed.state t) ≡ leb (weight_over c t) (grown_over c t)
    over-same t = rw (freed-kept.graph, freed-kept.growth)

    relisted-of : (s : ℕ) → member (opposite s) (sides_at c v) ≡ true → closed n vertex_freed.state (opposite s) ≡ true
        → Relisted Q (view_during c k w) n v s × (weight_over c s ≤ growth_at c s + growth_at c (opposite s))
    relisted-of s m e =
        let f : Full n vertex_freed.state (opposite s) = closed-full n vertex_freed.state (opposite s) e in
        let a = graph-ok.at_out v (opposite s) m in
        let oo : opposite (opposite s) ≡ s = opposite-opposite s in
        let inside : s < length c.graph.end = rw oo at (graph-ok.side-graph.across (opposite s) a.0) in
        let near : holder_at w.state s ≡ n + 1 = sym (freed-same s) ∙ (rw oo at f.far) in
        let le : weight_over c (opposite s) ≤ growth_at c (opposite s) + growth_at c (opposite (opposite s)) =
        leb-true _ _ (sym (over-same (opposite s)) ∙ f.full) in
        let le' : weight_over c (opposite s) ≤ growth_at c (opposite s) + growth_at c s = rw oo at le in
        let same-weight : weight_over c (opposite s) ≡ weight_over c s = graph-ok.side-graph.same-weight s in
        (record { inside = inside; at = a.1; near = near; far = sym (freed-same (opposite s)) ∙ f.near }, omega arith)

    kept_of : (s : ℕ) → Relisted Q (view_during c k w) n v s → weight_over c s ≤ growth_at c s + growth_at c (opposite s)
        → closed n vertex_freed.state (opposite s) ≡ true
    kept_of s b le =
        let oo : opposite (opposite s) ≡ s = opposite-opposite s in
        let same-weight : weight_over c (opposite s) ≡ weight_over c s = graph-ok.side-graph.same-weight s in
        let le' : weight_over c (opposite s) ≤ growth_at c (opposite s) + growth_at c s = omega arith in
        full-closed n vertex_freed.state (opposite s)
        (record {
          near = freed-same (opposite s) ∙ b.far;
          far = rw oo (freed-same s ∙ b.near);
          full = over-same (opposite s) ∙ rw oo (le-leb _ _ le');
        })

    apart : vertex_holder_at w.state v ≢ 0 → (u : ℕ) → member u (stacked st) ≡ true → (t : ℕ) → t < length c.graph.end
        → end_at c t ≡ u → end_at c (opposite t) ≢ v
    apart h u m t b e far =
        let og : OvergrownVertex Q (view_during c k w) n (node_view_during c n k w st) u = run.node.overgrown-vertices u m in
        let r₁ : k.rank (end_at c (opposite t)) < k.rank u = og.earlier t b e in
        ⊎_elim
        (λ (g : OutwardEdge Q (view_during c k w) n (node_view_during c n k w st) t).
        let r₂ : k.rank (end_at c t) < k.rank (end_at c (opposite t)) = g.later in
        let r₃ : k.rank u < k.rank (end_at c (opposite t)) = rw e at r₂ in
        omega arith)
        (λ (g : InwardEdge Q (view_during c k w) n (node_view_during c n k w st) t).
        let d₁ : k.depth (end_at c t) ≡ k.depth (end_at c (opposite t)) + weight_over c t = g.deeper in
        let d₂ : k.depth u ≡ k.depth v + weight_over c t = rw (e, far) at d₁ in
        omega (arith, lower u m, at-radius-of h))
        (run.node.closed t (run.node.all-sides u og.own og.plain t b e) (og.out t b e))

    release-held : vertex_holder_at w.state v ≢ 0 → Releasing st z (fold (release_side n) (on_state w (free_vertex w.state v)) (sides_at w.state v)) r
    unfolding vertex_freed
    release-held h =
        let after : Work = fold (release_side n) (on_state w (free_vertex w.state v)) (sides_at w.state v) in
        let fr : SidesFreed (closed n) (sides_at w.state v) (on_state w (free_vertex w.state v)) after =
        rw (release-freeing n) (free-sides (closed n) (closed-test n) (sides_at w.state v) (on_state w (free_vertex w.state v))) in
        let off : member v (stacked st) ≡ false = by-test (member v (stacked st)) (λ m. absurd (omega (arith, lower v m, at-radius-of h))) (λ m. m) in
        let go : Running st after =
        vertex-released c n k graph-ok w st st run v (own-side h) noted-vertex.plain (at-radius-of h)
        (closed n) after fr relisted-of kept_of (λ u m. m) (λ u ne m. m) off run.node.chain (apart h) in
        let now : (u : ℕ) → vertex_holder_at after.state u ≡ vertex_holder_at (free_vertex w.state v) u = λ u. unfold on_state in (rw fr.vertices) in
        record {
          running = go;
          sub = λ u m. i.sub u (member-tail u v r m);
          still = λ s m. fr.still s (unfold on_state in (i.still s m));
          released = λ u m.
              by_cases (dec_eq u v) (λ a. inr (rw a (now v ∙ vertex-freed w.state v)))
              (λ a.
              ⊎_elim (λ (b : member u (v ∷ r) ≡ true). member-cons u v r b (λ d. absurd (a d)) (λ d. inl d))
              (λ (b : vertex_holder_at w.state u ≡ 0). inr (now u ∙ vertex-other w.state v u a ∙ b))
              (i.released u m));
        }

  release-step : (st : List Overgrown) (z : Work) → ((v : ℕ) → member v z.noted ≡ true → NotedVertex v)
      → ((u : ℕ) → member u (stacked st) ≡ true → k.depth u < k.base n + dual_of c n) → (w : Work) (v : ℕ) (r : List ℕ)
      → Releasing st z w (v ∷ r) → Releasing st z (release_step n w v) r
  unfolding release_step
  release-step st z noted-vertex lower w v r i =
      let y : NotedVertex v = noted-vertex v (i.sub v (member-head v r)) in
      if-cases (λ (x : Work). Releasing st z x r) (eqb (vertex_holder_at w.state v) 0)
      (λ e. release-free st z w v r y lower i (eqb-true _ _ e))
      (λ e. release-held st z w v r y lower i (eqb-false _ _ e))

  -- ---- the pass

  pub record ShrinkDone (w : Work) : Type 0 where
    pub keeps : SameButHolders c w.state
    pub global : Global (side_graph_of c.graph) (view_during c k w)
    pub node : NodeInvariant (side_graph_of c.graph) (view_during c k w) n
        (with_listed (node_view_of c k n) (λ s. member s w.kept) (below_tops (overgrown_of c n)))
    pub boundary-held : w.another ≡ false → (s : ℕ) → member s w.kept ≡ true → holder_at w.state s ≡ n + 1
    pub zero-at-defects : w.another ≡ false → (s : ℕ) → member s w.kept ≡ true → growth_at c s ≡ 0 → defect_at c (end_at c s) ≢ 0
    pub sides : (t : ℕ) → (holder_at w.state t ≡ holder_at c t) ⊎ ((holder_at c t ≡ n + 1) × (holder_at w.state t ≡ 0))
    pub vertices : (u : ℕ) → (vertex_holder_at w.state u ≡ vertex_holder_at c u) ⊎ ((vertex_holder_at c u ≡ n + 1) × (vertex_holder_at w.state u ≡ 0))

  module _ (g : Global (side_graph_of c.graph) (view_of c k)) (i : NodeInvariantOf c k n) (once : distinct (stacked (overgrown_of c n)) ≡ true) where
    begin : Running (overgrown_of c n) (start_pass c (below_tops (overgrown_of c n)))
    unfolding start_pass
    begin = record {
      keeps = kept_refl c;
      global = g;
      node =
          fewer-node Q (view_of c k) n (node_view_of c k n)
          (node_view_during c n k (start_pass c (below_tops (overgrown_of c n))) (overgrown_of c n)) i refl refl refl
          (λ s e. or_cases (member s []) (member s (boundary_of c n)) e (λ a. member-nil s a) (λ a. a))
          (λ s e f. clash (member s [] || member s (boundary_of c n)) (or_right (member s []) (member s (boundary_of c n)) e) f);
      zero-calls-another = λ s m. member-nil s m;
      sides = λ t. inl refl;
      vertices = λ u. inl refl;
    }

    after-drops : Running (below_tops (overgrown_of c n)) (dropped c n)
    unfolding dropped
    after-drops = drop_all c n k graph-ok (overgrown_of c n) (start_pass c (below_tops (overgrown_of c n))) once begin

    none-noted : (st : List Overgrown) (w : Work) → w.noted ≡ [] → Running st w → Scanning st w (boundary_of c n)
    none-noted st w e r = record { running = r; sub = λ s m. m; noted-vertex = λ v m. member-nil v (rw e at m); kept-or-noted = λ s m. inl m }

    dropped-noted : (dropped c n).noted ≡ []
    unfolding dropped start_pass drop_step
    dropped-noted = fold-keeps (drop_step n) (λ (w : Work). w.noted ≡ []) step (start_pass c (below_tops (overgrown_of c n))) (empty_tops (overgrown_of c n)) refl
      where
        step : (w : Work) (v : ℕ) → w.noted ≡ [] → (drop_step n w v).noted ≡ []
        step w v e =
            let a : (fold drop_side (on_state w (free_vertex w.state v)) (sides_at w.state v)).noted
            ≡ (on_state w (free_vertex w.state v)).noted =
            rw drop-freeing (free-sides always always-test (sides_at w.state v) (on_state w (free_vertex w.state v))).noted in
            let b : (on_state w (free_vertex w.state v)).noted ≡ [] = unfold on_state in e in
            if-both (λ (z : Work). z.noted ≡ []) (eqb (vertex_holder_at w.state v) (n + 1)) (a ∙ b) e

    scanned : Scanning (below_tops (overgrown_of c n)) (shrink_scanned c n) []
    unfolding shrink_scanned
    scanned =
        fold-keeps-rest shrink_step (Scanning (below_tops (overgrown_of c n))) (scan_step (below_tops (overgrown_of c n))) (dropped c n)
        (boundary_of c n) (none-noted (below_tops (overgrown_of c n)) (dropped c n) dropped-noted after-drops)

    ended : Releasing (below_tops (overgrown_of c n)) (shrink_scanned c n) (shrink_pass c n) []
    unfolding shrink_pass
    ended =
        fold-keeps-rest (release_step n) (Releasing (below_tops (overgrown_of c n)) (shrink_scanned c n))
        (release-step (below_tops (overgrown_of c n)) (shrink_scanned c n) scanned.noted-vertex
        (below-radius k.depth (overgrown_of c n) i.chain))
        (shrink_scanned c n) (shrink_scanned c n).noted
        (record { running = scanned.running; sub = λ v m. m; still = λ s m. m; released = λ v m. inl m })

    pub shrink-done : ShrinkDone (shrink_pass c n)
    shrink-done =
        let w : Work = shrink_pass c n in
        let run : Running (below_tops (overgrown_of c n)) w = ended.running in
        let left_out : (s : ℕ) → listed_during c n w s ≡ true → member s w.kept ≡ false → holder_at w.state s ≡ 0 =
        λ s e f.
        or_cases (member s w.kept) (member s (boundary_of c n)) e
        (λ a. clash (member s w.kept) a f)
        (λ a.
        ⊎_elim
        (λ (b : member s [] ≡ true). member-nil s b)
        (λ (b : KeptOrNoted (shrink_scanned c n) s).
        elim b [
          | kept_here d ↦ clash (member s w.kept) (ended.still s d) f
          | noted_here d ↦
              ⊎_elim
              (λ (y : member (end_at c s) [] ≡ true). member-nil (end_at c s) y)
              (λ (y : vertex_holder_at w.state (end_at c s) ≡ 0). by_cases (dec_eq (holder_at w.state s) 0) (λ x. x)
              (λ x. absurd (run.global.held-side s x y)))
              (ended.released (end_at c s) d)
        ])
        (scanned.kept-or-noted s a)) in
        record {
          keeps = run.keeps;
          global = run.global;
          node =
              fewer-node Q (view_during c k w) n (node_view_during c n k w (below_tops (overgrown_of c n)))
              (with_listed (node_view_of c k n) (λ s. member s w.kept) (below_tops (overgrown_of c n))) run.node refl refl refl
              (λ s e. or_left (member s w.kept) (member s (boundary_of c n)) e) left_out;
          boundary-held = λ e s m.
              let l : listed_during c n w s ≡ true = or_left (member s w.kept) (member s (boundary_of c n)) m in
              by_cases (dec_eq (holder_at w.state s) (n + 1)) (λ a. a)
              (λ a.
              let z : holder_at w.state s ≡ 0 = run.node.held s l a in
              let d : defect_at c (end_at c s) ≡ 0 =
              by_cases (dec_eq (defect_at c (end_at c s)) 0) (λ b. b)
              (λ b. absurd (run.global.held-vertex s (run.node.within s l) (run.global.defects (end_at c s) b) z)) in
              clash w.another (run.zero-calls-another s m (run.global.free s z) d) e);
          zero-at-defects = λ e s m f d. clash w.another (run.zero-calls-another s m f d) e;
          sides = run.sides;
          vertices = run.vertices;
        }

-- A state with the invariant and without blossoms, read as distances: what the table afresh needs. The depth of a vertex that a defect node holds is 0 at
-- the defect, is at most the dual variable, differs by at most the weight along an edge, and, with positive weights, comes along
-- some edge from a vertex less deep. Depths fix the growths.
use Rattle.std.specs.Prelude.{ℕ, ◌+◌, ◌-◌, ◌≤◌, ◌<◌, ◌≡◌, ◌≢◌, true}
use Rattle.std.proofs.Common.{arith, sym, ◌∙◌, ⊎_elim}
use Rattle.std.proofs.Math.Decide.{ℕ_discrete as dec_eq, dec_lt}
use Rattle.std.proofs.Math.Logic.{by_cases}
use Rattle.std.proofs.Math.ListN.{get_or-eq_default}
use Rattle.graph.specs.Basic.{member}
use Rattle.graph.specs.State.{State, defect_vertex, opposite, vertex_count, side_count, node_count, end_at, growth_at, holder_at, vertex_holder_at, defect_at, class_of, parent_of, dual_of, boundary_of, weight_over}
use Rattle.graph.specs.laws.State.{opposite-opposite}
use Rattle.graph.specs.laws.Members.{by-test, clash}
use Rattle.reachable.specs.Cluster.{Global, OutwardEdge, InwardEdge, Predecessor}
use Rattle.reachable.specs.laws.invariant.Depth.{depth-within-radius}
use Rattle.reachable.specs.Invariant.{side_graph_of, view_of, node_view_of, NodeInvariantOf, DefectNode, Invariant}
use Rattle.reachable.specs.laws.state.GraphOk.{GraphOk}
use Rattle.reachable.specs.laws.state.Numbers.{numbers-graph-ok}
use Rattle.reachable.specs.Numbers.{SoundNumbers}
use Rattle.reachable.specs.laws.prepare.Preparation.{invariant-numbers}

-- a side at vertex u, which node n holds, of an edge whose far end the node holds too: the edge leads from u, or to u, or across
pub data HeldEdge (c : State) (depth : ℕ → ℕ) (n t : ℕ) : Type 0 where
  outward : depth (end_at c (opposite t)) ≡ depth (end_at c t) + weight_over c t → growth_at c t ≡ weight_over c t → HeldEdge c depth n t
  inward : depth (end_at c t) ≡ depth (end_at c (opposite t)) + weight_over c t → growth_at c t ≡ 0 → HeldEdge c depth n t
  across : depth (end_at c t) + growth_at c t ≡ dual_of c n
      → (weight_over c t ≢ 0 → depth (end_at c (opposite t)) < depth (end_at c t) + weight_over c t)
      → (weight_over c t ≢ 0 → depth (end_at c t) < depth (end_at c (opposite t)) + weight_over c t) → HeldEdge c depth n t

-- the edge along which a vertex was taken
pub record PredecessorOf (c : State) (depth : ℕ → ℕ) (n u : ℕ) : Type 0 where
  pub side : ℕ
  pub inside : side < side_count c
  pub at : end_at c side ≡ u
  pub held : vertex_holder_at c (end_at c (opposite side)) ≡ n + 1
  pub adds : depth u ≡ depth (end_at c (opposite side)) + weight_over c side

module _ (c : State) (g : Invariant c) (outermost : (m : ℕ) → m < node_count c → parent_of c m ≡ 0) where
  f : SoundNumbers c
  f = invariant-numbers g

  graph-ok : GraphOk c.graph
  graph-ok = numbers-graph-ok c (invariant-numbers g)

  G : Global (side_graph_of c.graph) (view_of c g.labels)
  G = g.clusters.global

  node_of : (m : ℕ) → m < node_count c → NodeInvariantOf c g.labels m
  node_of m b = g.clusters.node m b (outermost m b)

  holder-below : (t m : ℕ) → holder_at c t ≡ m + 1 → m < node_count c
  holder-below t m e = let b : t < side_count c = G.side-below t (λ z. omega arith) in omega (arith, (f.sides t b).holder)

  vertex-holder-below : (u m : ℕ) → vertex_holder_at c u ≡ m + 1 → m < node_count c
  vertex-holder-below u m e =
      by_cases (dec_lt u (vertex_count c))
      (λ b. omega (arith, (f.vertices u b).vertex_holder))
      (λ b. absurd (let z : vertex_holder_at c u ≡ 0 = get_or-eq_default c.vertices.vertex_holder 0 (omega (arith, g.shape.vertex_holder)) in omega arith))

  -- a side has its vertex's holder
  pub side-holder : (t : ℕ) → t < side_count c → holder_at c t ≡ vertex_holder_at c (end_at c t)
  side-holder t b =
      by_cases (dec_eq (holder_at c t) 0)
      (λ e. by_cases (dec_eq (vertex_holder_at c (end_at c t)) 0) (λ q. e ∙ sym q) (λ q. absurd (G.held-vertex t b q e)))
      (λ e.
      let v : vertex_holder_at c (end_at c t) ≢ 0 = G.held-side t e in
      let h₁ : holder_at c t ≡ holder_at c t - 1 + 1 = omega arith in
      let h₂ : vertex_holder_at c (end_at c t) ≡ vertex_holder_at c (end_at c t) - 1 + 1 = omega arith in
      let o₁ : g.labels.owner (end_at c t) ≡ holder_at c t - 1 = (node_of (holder_at c t - 1) (holder-below t (holder_at c t - 1) h₁)).owner-side t h₁ in
      let o₂ : g.labels.owner (end_at c t) ≡ vertex_holder_at c (end_at c t) - 1 =
      (node_of (vertex_holder_at c (end_at c t) - 1)
      (vertex-holder-below (end_at c t) (vertex_holder_at c (end_at c t) - 1) h₂)).owner-vertex (end_at c t) h₂ in
      omega arith)

  module _ (n x : ℕ) (b : n < node_count c) (at : class_of c n ≡ defect_vertex x) where
    depth : ℕ → ℕ
    depth = g.labels.depth

    defect-node : DefectNode c g.labels n x
    defect-node = g.clusters.defect-nodes.defect-node n b (outermost n b) x at

    i : NodeInvariantOf c g.labels n
    i = node_of n b

    pub defect-vertex-held : (vertex_holder_at c x ≡ n + 1) × (g.labels.depth x ≡ 0)
    defect-vertex-held = (defect-node.held, defect-node.depth)

    -- the node holds no other defect
    pub other-no-defect : (u : ℕ) → vertex_holder_at c u ≡ n + 1 → u ≢ x → defect_at c u ≡ 0
    other-no-defect u v ne =
        by_cases (dec_eq (defect_at c u) 0) (λ e. e)
        (λ e.
        let p : defect_vertex x ≡ defect_vertex u = sym at ∙ g.clusters.defect-nodes.no_other n b (outermost n b) u v e in
        let q : x ≡ u = cc in
        absurd (ne (sym q)))

    pub depth-le-dual : (u : ℕ) → vertex_holder_at c u ≡ n + 1 → g.labels.depth u ≤ dual_of c n
    depth-le-dual u v =
        by_cases (dec_eq u x)
        (λ e. rw e (omega (arith, defect-node.depth)))
        (λ e. let d : g.labels.depth u
        ≤ g.labels.base n + dual_of c n = depth-within-radius (side_graph_of c.graph) (view_of c g.labels) n
        (node_view_of c g.labels n) G i u v (other-no-defect u v e) in
        omega (arith, defect-node.base))

    -- a side at a vertex that the node holds, and of an edge with both ends held
    side-held : (t : ℕ) → t < side_count c → vertex_holder_at c (end_at c t) ≡ n + 1 → holder_at c t ≡ n + 1
    side-held t q v = side-holder t q ∙ v

    pub depth-differ-weight : (t : ℕ) → t < side_count c → vertex_holder_at c (end_at c t) ≡ n + 1
        → vertex_holder_at c (end_at c (opposite t)) ≡ n + 1
        → g.labels.depth (end_at c t) ≤ g.labels.depth (end_at c (opposite t)) + weight_over c t
    depth-differ-weight t q v w = i.depth-differ t (side-held t q v) (side-held (opposite t) (graph-ok.side-graph.across t q) w)

    listed-growth-dual : (t : ℕ) → member t (boundary_of c n) ≡ true → g.labels.depth (end_at c t) + growth_at c t ≡ dual_of c n
    listed-growth-dual t m =
        let l : g.labels.depth (end_at c t) + growth_at c t ≡ g.labels.base n + dual_of c n =
        i.listed-growth t m (g.clusters.boundary-held n b (outermost n b) t m) in
        omega (arith, defect-node.base)

    -- the far end is not held by the node: the side is listed
    pub border-listed : (t : ℕ) → t < side_count c → vertex_holder_at c (end_at c t) ≡ n + 1 → vertex_holder_at c (end_at c (opposite t)) ≢ n + 1
        → member t (boundary_of c n) ≡ true
    border-listed t q v w =
        let o : holder_at c (opposite t) ≢ n + 1 = λ z. w (sym (side-holder (opposite t) (graph-ok.side-graph.across t q)) ∙ z) in
        by-test (member t (boundary_of c n)) (λ z. z)
        (λ z.
        ⊎_elim (λ (k : OutwardEdge (side_graph_of c.graph) (view_of c g.labels) n (node_view_of c g.labels n) t). absurd (o k.far))
        (λ (k : InwardEdge (side_graph_of c.graph) (view_of c g.labels) n (node_view_of c g.labels n) t). absurd (o k.far))
        (i.closed t (side-held t q v) z))

    -- and has grown by what is left, within the weight
    pub border-side : (t : ℕ) → t < side_count c → vertex_holder_at c (end_at c t) ≡ n + 1 → vertex_holder_at c (end_at c (opposite t)) ≢ n + 1
        → (g.labels.depth (end_at c t) + growth_at c t ≡ dual_of c n) × (growth_at c t + growth_at c (opposite t) ≤ weight_over c t)
    border-side t q v w =
        let o : holder_at c (opposite t) ≢ n + 1 = λ z. w (sym (side-holder (opposite t) (graph-ok.side-graph.across t q)) ∙ z) in (
          listed-growth-dual t (border-listed t q v w),
          ⊎_elim (λ (k : growth_at c t + growth_at c (opposite t) ≤ weight_over c t). k)
              (λ (k : (holder_at c t ≢ 0) × (holder_at c (opposite t) ≡ holder_at c t)). absurd (o (k.1 ∙ side-held t q v))) (G.within-weight t q),
        )

    -- both ends are held by the node
    pub held-edge : (t : ℕ) → t < side_count c → vertex_holder_at c (end_at c t) ≡ n + 1
        → vertex_holder_at c (end_at c (opposite t)) ≡ n + 1 → HeldEdge c g.labels.depth n t
    held-edge t q v w =
        let h : holder_at c t ≡ n + 1 = side-held t q v in
        let o : holder_at c (opposite t) ≡ n + 1 = side-held (opposite t) (graph-ok.side-graph.across t q) w in
        let oo : opposite (opposite t) ≡ t = opposite-opposite t in
        by-test (member t (boundary_of c n))
        (λ m.
        by-test (member (opposite t) (boundary_of c n))
        (λ k.
        across (listed-growth-dual t m)
        (λ z.
        let s₁ : g.labels.depth (end_at c (opposite t))
        < g.labels.depth (end_at c (opposite (opposite t))) + weight_over c (opposite t) =
        i.depth-differ-strict defect-node.base (opposite t) k (rw oo m) o (rw oo h)
        (λ y. z (sym (graph-ok.side-graph.same-weight t) ∙ y)) in
        let s₂ : g.labels.depth (end_at c (opposite t)) < g.labels.depth (end_at c t) + weight_over c (opposite t) = rw oo at s₁ in
        omega (arith, graph-ok.side-graph.same-weight t))
        (λ z. i.depth-differ-strict defect-node.base t m k h o z))
        (λ k.
        ⊎_elim
        (λ (y : OutwardEdge (side_graph_of c.graph) (view_of c g.labels) n (node_view_of c g.labels n)
        (opposite t)).
        clash
        (member t (boundary_of c n)) m (rw oo at y.out-far))
        (λ (y : InwardEdge (side_graph_of c.graph) (view_of c g.labels) n (node_view_of c g.labels n) (opposite t)).
        clash
        (member t (boundary_of c n)) m (rw oo at y.out-far))
        (i.closed (opposite t) o k)))
        (λ m.
        ⊎_elim
        (λ (y : OutwardEdge (side_graph_of c.graph) (view_of c g.labels) n (node_view_of c g.labels n) t). outward y.deeper y.full)
        (λ (y : InwardEdge (side_graph_of c.graph) (view_of c g.labels) n (node_view_of c g.labels n) t). inward y.deeper y.empty)
        (i.closed t h m))

    -- with positive weights: the edge along which a vertex was taken
    pub predecessor-of : ((t : ℕ) → t < side_count c → weight_over c t ≢ 0) → (u : ℕ) → vertex_holder_at c u ≡ n + 1 → u ≢ x
        → PredecessorOf c g.labels.depth n u
    predecessor-of pos u v ne =
        let d : defect_at c u ≡ 0 = other-no-defect u v ne in
        let l : Predecessor (side_graph_of c.graph) (view_of c g.labels) n (node_view_of c g.labels n) u = i.predecessor pos u v d in
        let h : holder_at c l.side ≡ n + 1 = i.all-sides u v d l.side l.inside l.at in
        ⊎_elim
        (λ (y : OutwardEdge (side_graph_of c.graph) (view_of c g.labels) n (node_view_of c g.labels n) l.side).
        let z : g.labels.rank (end_at c l.side) < g.labels.rank (end_at c (opposite l.side)) = y.later in
        let z' : g.labels.rank u < g.labels.rank (end_at c (opposite l.side)) = rw l.at at z in
        absurd (omega (arith, l.earlier)))
        (λ (y : InwardEdge (side_graph_of c.graph) (view_of c g.labels) n (node_view_of c g.labels n) l.side).
        let e : g.labels.depth (end_at c l.side) ≡ g.labels.depth (end_at c (opposite l.side)) + weight_over c l.side = y.deeper in
        record {
          side = l.side;
          inside = l.inside;
          at = l.at;
          held = sym (side-holder (opposite l.side) (graph-ok.side-graph.across l.side l.inside)) ∙ y.far;
          adds = rw l.at at e;
        })
        (i.closed l.side h l.out)

-- The dual variables of a state without blossoms are feasible: two defects are at least as far apart as theirs sum to, and a virtual
-- vertex is at least as far as each.
use Rattle.std.specs.Prelude.{ℕ, ◌+◌, ◌-◌, ◌≤◌, ◌<◌, ◌≡◌, ◌≢◌, List, length, get_or}
use Rattle.std.proofs.Common.{arith, sym, ap, ◌∙◌}
use Rattle.std.proofs.Math.Decide.{ℕ_discrete as dec_eq}
use Rattle.std.proofs.Math.Logic.{by_cases}
use Rattle.graph.specs.State.{State, defect_vertex, opposite, side_count, node_count, end_at, growth_at, vertex_holder_at, class_of, dual_of, weight_over}
use Rattle.graph.specs.laws.State.{opposite-opposite}
use Rattle.reachable.specs.laws.prepare.Preparation.{invariant-numbers}
use Rattle.reachable.specs.laws.WithoutBlossoms.{defect-vertex-held, border-side}
use Rattle.reachable.specs.laws.state.Numbers.{numbers-end}
use Rattle.distance.specs.Graph.{WeightedGraph, near, across, weight}
use Rattle.distance.specs.Distance.{unreachable, dist}
use Rattle.distance.specs.Table.{dual}
use Rattle.distance.specs.Feasible.{Feasible}
use Rattle.distance.proofs.laws.Distance.{dist-sym}
use Rattle.distance.proofs.laws.Leaving.{Leaving, dist-leaving}
use Rattle.opened_graph.specs.laws.Graph.{opposite-inside}
use Rattle.table_theorem.proofs.laws.Depth.{DefectsOnly, vertex-inside, depth_is, far-off}
use Rattle.table_theorem.proofs.laws.Table.{Duals, NodeAt, node_at}

module _ (g : WeightedGraph) (c : State) (p : DefectsOnly g c) where
  place_end : (t : ℕ) → end_at c t < g.size
  place_end t = rw (← p.graph.size_is) (numbers-end c (invariant-numbers p.good) t)

  -- ---- where a shortest walk leaves what a node holds

  module _ (n x : ℕ) (b : n < node_count c) (at : class_of c n ≡ defect_vertex x) (z : ℕ) where
    pub leaves_at : vertex_holder_at c z ≢ n + 1 → dist g x z < unreachable → Leaving g x z (λ u. vertex_holder_at c u ≡ n + 1)
    leaves_at q r =
        dist-leaving g p.formed x (vertex-inside g c p n x b at) (λ u. vertex_holder_at c u ≡ n + 1) (λ u. dec_eq (vertex_holder_at c u) (n + 1))
        (defect-vertex-held c p.good p.outer n x b at).0 z q r

    module _ (w : Leaving g x z (λ u. vertex_holder_at c u ≡ n + 1)) where
      -- the side there stands at a vertex that the node holds, and its far end is not the node's
      pub left-inside : w.side < side_count c
      left-inside = rw p.graph.sides-are w.inside

      pub left_near : vertex_holder_at c (end_at c w.side) ≡ n + 1
      left_near = rw (p.graph.near-is w.side) w.held

      pub left_far : vertex_holder_at c (end_at c (opposite w.side)) ≢ n + 1
      left_far = rw (p.graph.across-is w.side) w.free

      pub left-within : growth_at c w.side + growth_at c (opposite w.side) ≤ weight_over c w.side
      left-within = (border-side c p.good p.outer n x b at w.side left-inside left_near left_far).1

      -- with room for l more on that edge, the node's reach stays within the distance of its far end
      pub leaves : (l : ℕ) → growth_at c w.side + growth_at c (opposite w.side) + l ≤ weight_over c w.side
          → dual_of c n + growth_at c (opposite w.side) + l ≤ dist g x (across g w.side)
      leaves l room =
          let s : ℕ = w.side in
          let e₁ : end_at c s ≡ near g s = p.graph.near-is s in
          let e₃ : weight_over c s ≡ weight g s = p.graph.weight_is s in
          let b₁ : p.good.labels.depth (end_at c s) + growth_at c s ≡ dual_of c n =
          (border-side c p.good p.outer n x b at s left-inside left_near left_far).0 in
          let d₁ : dist g x (near g s) ≡ p.good.labels.depth (end_at c s) = ap (dist g x) (sym e₁) ∙ depth_is g c p n x b at (end_at c s) left_near in
          let ad : dist g x (across g s) ≡ dist g x (near g s) + weight g s = w.adds in
          omega arith

      -- so it stays within the distance to z
      pub room-far : (l : ℕ) → growth_at c w.side + growth_at c (opposite w.side) + l ≤ weight_over c w.side → dual_of c n + l ≤ dist g x z
      room-far l room = let le = leaves l room in omega (arith, w.ahead)

module _ (g : WeightedGraph) (c : State) (p : DefectsOnly g c) where
  -- ---- two nodes

  module _ (n x m z : ℕ) (b : n < node_count c) (at : class_of c n ≡ defect_vertex x) (k : m < node_count c) (to : class_of c m ≡ defect_vertex z) (ne : n ≢ m) where
    -- where a shortest walk from x leaves what n holds, with room for l more on that edge
    pub room_apart : (w : Leaving g x z (λ u. vertex_holder_at c u ≡ n + 1)) (l : ℕ)
        → growth_at c w.side + growth_at c (opposite w.side) + l ≤ weight_over c w.side → dual_of c n + l + dual_of c m ≤ dist g x z
    room_apart w l room =
        let s : ℕ = w.side in
        let e₂ : end_at c (opposite s) ≡ across g s = p.graph.across-is s in
        let sy : dist g (across g s) z ≡ dist g z (across g s) =
        dist-sym g p.formed (across g s) z (rw e₂ at (place_end g c p (opposite s)))
        (vertex-inside g c p m z k to) in
        let ah : dist g x z ≡ dist g x (across g s) + dist g (across g s) z = w.ahead in
        let le : dual_of c n + growth_at c (opposite s) + l ≤ dist g x (across g s) = leaves g c p n x b at z w l room in
        by_cases (dec_eq (vertex_holder_at c (end_at c (opposite s))) (m + 1))
        (λ h.
        let in-o : opposite s < side_count c = rw p.graph.sides-are (opposite-inside g p.formed s w.inside) in
        let h' : vertex_holder_at c (end_at c (opposite (opposite s))) ≢ m + 1 = rw (opposite-opposite s) (λ q. ne (same q)) in
        let bz = border-side c p.good p.outer m z k to (opposite s) in-o h h' in
        let d₂ : dist g z (across g s) ≡ p.good.labels.depth (end_at c (opposite s)) =
        ap (dist g z) (sym e₂) ∙ depth_is g c p m z k to (end_at c (opposite s)) h in
        let b₃ : p.good.labels.depth (end_at c (opposite s)) + growth_at c (opposite s) ≡ dual_of c m = bz.0 in
        omega arith)
        (λ h.
        let d₂ : dual_of c m ≤ dist g z (across g s) = rw e₂ at (far-off g c p m z k to (end_at c (opposite s)) h) in
        omega arith)
      where
        same : vertex_holder_at c (end_at c w.side) ≡ m + 1 → n ≡ m
        same q = let v : vertex_holder_at c (end_at c w.side) ≡ n + 1 = rw (p.graph.near-is w.side) w.held in omega arith

    -- such a place on the walk
    pub leaving : dist g x z < unreachable → Leaving g x z (λ u. vertex_holder_at c u ≡ n + 1)
    leaving r = leaves_at g c p n x b at z (λ q. ne (omega (arith, (defect-vertex-held c p.good p.outer m z k to).0))) r

    pub nodes-apart : dist g x z < unreachable → dual_of c n + dual_of c m ≤ dist g x z
    nodes-apart r =
        let w = leaving r in
        let z₀ : dual_of c n + 0 + dual_of c m ≤ dist g x z = room_apart w 0 (omega (arith, left-within g c p n x b at z w)) in
        omega arith

-- ---- feasible

module _ (g : WeightedGraph) (c : State) (p : DefectsOnly g c) (y : List ℕ) (ds : Duals c y) where
  pub feasible : length y ≡ g.size → Feasible g y
  feasible size = record {
    sized = size;
    bounded = λ a.
        by_cases (dec_eq (get_or y a 0) 0)
        (λ z. omega arith)
        (λ z. let s : NodeAt g c p y ds a = node_at g c p y ds a z in omega (arith, s.is, ((invariant-numbers p.good).nodes s.node s.inside).dual));
    pairs = λ a b i j ne u w r.
        let s : NodeAt g c p y ds a = node_at g c p y ds a (λ z. omega arith) in
        let t : NodeAt g c p y ds b = node_at g c p y ds b (λ z. omega arith) in
        let apart : s.node ≢ t.node = λ e. ne (one-vertex a b s.node t.node e s.defect t.defect) in
        let le : dual_of c s.node + dual_of c t.node ≤ dist g a b =
        nodes-apart g c p s.node a t.node b s.inside s.defect t.inside t.defect apart r in
        omega (arith, s.is, t.is);
    virtuals = λ a v i j w.
        by_cases (dec_eq (get_or y a 0) 0)
        (λ z. omega arith)
        (λ z.
        let s : NodeAt g c p y ds a = node_at g c p y ds a z in
        let f : vertex_holder_at c v ≡ 0 =
        p.good.clusters.defect-nodes.virtuals v
        (λ q. let k : get_or g.virtual v 0 ≡ 0 = sym (p.graph.virtual_is v) ∙ q in omega arith) in
        let le : dual_of c s.node ≤ dist g a v = far-off g c p s.node a s.inside s.defect v (λ q. omega arith) in
        omega (arith, s.is));
  }
    where
      one-vertex : (a b n m : ℕ) → n ≡ m → class_of c n ≡ defect_vertex a → class_of c m ≡ defect_vertex b → a ≡ b
      one-vertex a b n m e s t = let q : defect_vertex a ≡ defect_vertex b = sym s ∙ ap (class_of c) e ∙ t in cc

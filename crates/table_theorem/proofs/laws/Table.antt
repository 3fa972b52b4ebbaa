-- In such a state the growth table is the one worked out from distances and dual variables.
use Rattle.std.specs.Prelude.{ℕ, ◌+◌, ◌-◌, ◌≤◌, ◌<◌, ◌≡◌, refl, ◌≢◌, List, get_or}
use Rattle.std.proofs.Common.{arith, ap, ◌∙◌}
use Rattle.std.proofs.Math.Decide.{ℕ_discrete as dec_eq, dec_lt}
use Rattle.std.proofs.Math.Path.{sym}
use Rattle.std.proofs.Math.Logic.{by_cases}
use Rattle.std.proofs.Math.Option.{some}
use Rattle.std.proofs.Math.ListN.{length}
use Rattle.std.proofs.Math.Seq.{ext_get_or}
use Rattle.graph.specs.State.{State, defect_vertex, side_count, node_count, end_at, growth_at, vertex_holder_at, defect_at, class_of, dual_of}
use Rattle.calls.specs.Calls.{growth_table}
use Rattle.reachable.specs.laws.WithoutBlossoms.{side-holder}
use Rattle.distance.specs.Graph.{WeightedGraph, sides, near, across, weight}
use Rattle.distance.specs.Distance.{dist}
use Rattle.distance.specs.Table.{dual, Covers, owner, growth, share, table_from_distances}
use Rattle.distance.proofs.laws.Table.{owner-only, growth-some, growth-free, share-by, length-table_from_distances, at-table_from_distances}
use Rattle.table_theorem.proofs.laws.Depth.{DefectNode, DefectsOnly, holder-below, vertex-inside, far-off, growth-held}

-- y has the dual variable of each defect node at its vertex, and 0 where there is no defect
pub record Duals (c : State) (y : List ℕ) : Type 0 where
  pub defects : (m x : ℕ) → m < node_count c → class_of c m ≡ defect_vertex x → get_or y x 0 ≡ dual_of c m
  pub others : (a : ℕ) → defect_at c a ≡ 0 → get_or y a 0 ≡ 0

module _ (g : WeightedGraph) (c : State) (p : DefectsOnly g c) (y : List ℕ) (ds : Duals c y) where
  -- a vertex with a dual variable above 0 is that of a node
  pub record NodeAt (a : ℕ) : Type 0 where
    pub node : ℕ
    pub inside : node < node_count c
    pub defect : class_of c node ≡ defect_vertex a
    pub is : get_or y a 0 ≡ dual_of c node

  pub node_at : (a : ℕ) → get_or y a 0 ≢ 0 → NodeAt a
  node_at a q =
      let d : defect_at c a ≢ 0 = λ z. q (ds.others a z) in
      let v : vertex_holder_at c a ≢ 0 = p.good.clusters.global.defects a d in
      let e : vertex_holder_at c a ≡ vertex_holder_at c a - 1 + 1 = omega arith in
      let b : vertex_holder_at c a - 1 < node_count c = holder-below g c p a (vertex_holder_at c a - 1) e in
      let s : class_of c (vertex_holder_at c a - 1) ≡ defect_vertex a =
      p.good.clusters.defect-nodes.no_other (vertex_holder_at c a - 1) b
      (p.outer (vertex_holder_at c a - 1) b) a e d in
      record { node = vertex_holder_at c a - 1; inside = b; defect = s; is = ds.defects (vertex_holder_at c a - 1) a b s }

  -- that node holds what the vertex covers
  covering-holds : (a u : ℕ) (k : NodeAt a) → Covers g y a u → vertex_holder_at c u ≡ k.node + 1
  covering-holds a u k cov =
      by_cases (dec_eq (vertex_holder_at c u) (k.node + 1)) (λ z. z)
      (λ z. absurd (let o : dual_of c k.node ≤ dist g a u = far-off g c p k.node a k.inside k.defect u z in omega (arith, k.is)))

  -- so a vertex is covered by one defect at most: that of the node that holds it
  covering-is : (n x u : ℕ) → class_of c n ≡ defect_vertex x → vertex_holder_at c u ≡ n + 1 → (a : ℕ) → Covers g y a u → a ≡ x
  covering-is n x u at v a cov =
      let k : NodeAt a = node_at a (λ z. omega arith) in
      let e : k.node ≡ n = omega (arith, covering-holds a u k cov) in
      let s : defect_vertex a ≡ defect_vertex x = sym k.defect ∙ ap (class_of c) e ∙ at in
      cc

  table-held : (s n x : ℕ) → s < side_count c → n < node_count c → class_of c n ≡ defect_vertex x
      → vertex_holder_at c (end_at c s) ≡ n + 1 → growth_at c s ≡ growth g y s
  table-held s n x h b at v =
      let e₁ : end_at c s ≡ near g s = p.graph.near-is s in
      let v' : vertex_holder_at c (near g s) ≡ n + 1 = rw e₁ at v in
      let q : get_or y x 0 ≡ dual_of c n = ds.defects n x b at in
      let gh : growth_at c s ≡ share (dual_of c n) (dist g x (near g s)) (dist g x (across g s)) (weight g s) = growth-held g c p n x b at s h v in
      by_cases (dec_lt (dist g x (near g s)) (dual_of c n))
      (λ l.
      let cov : Covers g y x (near g s) = omega arith in
      let o : owner g y (near g s) ≡ some x = owner-only g y (near g s) x (vertex-inside g c p n x b at) cov (λ a i k. covering-is n x (near g s) at v' a k) in
      let r : growth g y s ≡ share (dual y x) (dist g x (near g s)) (dist g x (across g s)) (weight g s) = growth-some g y s x o in
      gh ∙ ap (λ (k : ℕ). share k (dist g x (near g s)) (dist g x (across g s)) (weight g s)) (sym q) ∙ sym r)
      (λ l.
      let z : share (dual_of c n) (dist g x (near g s)) (dist g x (across g s)) (weight g s) ≡ 0 =
      share-by (dual_of c n) (dist g x (near g s)) (dist g x (across g s)) (weight g s) (λ (r : ℕ). r ≡ 0)
      (λ e. omega arith) (λ e f. refl) (λ e f. omega arith) in
      let r : growth g y s ≡ 0 =
      growth-free g y s
      (λ a i k. let e : a ≡ x = covering-is n x (near g s) at v' a k in
      let k' : dist g x (near g s) < get_or y x 0 = rw e at k in
      l (omega arith)) in
      gh ∙ z ∙ sym r)

  -- the growth of every side is the one worked out from distances
  pub growth-from-distances : (s : ℕ) → s < side_count c → growth_at c s ≡ growth g y s
  growth-from-distances s h =
      by_cases (dec_eq (vertex_holder_at c (end_at c s)) 0)
      (λ v.
      let z : growth_at c s ≡ 0 = p.good.clusters.global.free s (side-holder c p.good p.outer s h ∙ v) in
      let e₁ : end_at c s ≡ near g s = p.graph.near-is s in
      let v' : vertex_holder_at c (near g s) ≡ 0 = rw e₁ at v in
      z ∙ sym (growth-free g y s (λ a i k. let m : NodeAt a = node_at a (λ z. omega arith) in omega (arith, covering-holds a (near g s) m k))))
      (λ v.
      let e : vertex_holder_at c (end_at c s) ≡ vertex_holder_at c (end_at c s) - 1 + 1 = omega arith in
      let b : vertex_holder_at c (end_at c s) - 1 < node_count c = holder-below g c p (end_at c s) (vertex_holder_at c (end_at c s) - 1) e in
      let st : DefectNode c (vertex_holder_at c (end_at c s) - 1) = p.defect (vertex_holder_at c (end_at c s) - 1) b in
      table-held s (vertex_holder_at c (end_at c s) - 1) st.vertex h b st.is e)

  pub table-from-distances : growth_table c ≡ table_from_distances g y
  unfolding growth_table
  table-from-distances =
      let len : length c.sides.growth ≡ length (table_from_distances g y) =
      p.good.shape.growth ∙ p.graph.sides-are ∙ sym (length-table_from_distances g y) in
      ext_get_or 0 c.sides.growth (table_from_distances g y) len (λ s h.
      let in_c : s < side_count c = rw (← p.good.shape.growth) h in
      let in_g : s < sides g = rw (← p.graph.sides-are) in_c in
      growth-from-distances s in_c ∙ sym (at-table_from_distances g y s in_g))

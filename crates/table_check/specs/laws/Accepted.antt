-- What holds where nothing refuses the call.
use Rattle.std.specs.Prelude.{ℕ, ◌*◌, ◌≤◌, ◌≡◌, refl, ◌&&◌, List, map, ℤ, length, if◌then◌else◌}
use Rattle.std.proofs.Common.{arith}
use Rattle.std.proofs.Math.Bool.{true, not}
use Rattle.std.proofs.Math.Dec.{leb, ltb, eqb}
use borrow.Author.Tests.{eqb-true, eq-eqb, not-false}
use Rattle.graph.specs.Basic.{all, distinct}
use Rattle.graph.specs.Word.{to_nat}
use Rattle.graph.specs.Open.{dual_limit, growth_limit, sizes_ok, edge_ok, open_refusal}
use Rattle.graph.specs.Opening.{edges_in, edges_from, virtuals_from}
use Rattle.graph.specs.laws.State.{passed, and_left, and_right}
use Rattle.graph.specs.laws.Members.{distinct-length}
use Rattle.graph.specs.laws.Size.{sizes-in}
use Rattle.open_graph.specs.laws.Open.{first-passed, edges-count}
use Rattle.distance.specs.Graph.{WellFormed}
use Rattle.opened_graph.specs.laws.Opening.{well-formed}
use Rattle.table_refuse.specs.Refuse.{sizes_right, lengths_right, graph_in_range, defects_in_range, distances_in_range, numbers_right, table_refusal}
use Rattle.table_words.specs.laws.Words.{below_more, numbers-long}
use Rattle.table_check.specs.laws.Wiring.{graph_in}

pub record Accepted (v e : ℕ) (edges virtuals defects duals growths distances : List ℤ) : Type 0 where
  pub v-max : v ≤ 1024
  pub e-max : e ≤ 4096
  pub sizes : sizes_ok v e 1 0 ≡ true
  pub edge-count : edges_in edges ≡ e
  pub dual-count : length duals ≡ length defects
  pub growth-count : length growths ≡ 2 * e
  pub distance-count : length distances ≡ length defects * v
  pub edges-ok : all (edge_ok v) (edges_from edges) ≡ true
  pub virtuals-ok : all (λ x. ltb x v) (virtuals_from virtuals) ≡ true
  pub defects-ok : all (λ x. ltb x v) (map to_nat defects) ≡ true
  pub defects-once : distinct (map to_nat defects) ≡ true
  pub duals-ok : all (λ x. leb x dual_limit) (map to_nat duals) ≡ true
  pub distances-ok : distances_in_range distances ≡ true

module _ (v e : ℕ) (edges virtuals defects duals growths distances : List ℤ) where
  sized : sizes_right v e edges ≡ true → (sizes_ok v e 1 0 ≡ true) × (edges_in edges ≡ e)
  unfolding sizes_right
  sized h = first-passed v e 1 0 edges h

  pub lengths : lengths_right v e defects duals growths distances ≡ true
      → (length duals ≡ length defects) × (length growths ≡ 2 * e) × (length distances ≡ length defects * v)
  unfolding lengths_right
  lengths h =
      let x = eqb (length duals) (length defects) in
      let y = eqb (length growths) (2 * e) in
      let z = eqb (length distances) (length defects * v) in
      let k = and_right x (y && z) h in
      (eqb-true _ _ (and_left x (y && z) h), eqb-true _ _ (and_left y z k), eqb-true _ _ (and_right y z k))

  graphs : graph_in_range v edges virtuals ≡ true → (all (edge_ok v) (edges_from edges) ≡ true) × (all (λ x. ltb x v) (virtuals_from virtuals) ≡ true)
  unfolding graph_in_range
  graphs h =
      let x = all (edge_ok v) (edges_from edges) in
      let y = all (λ k. ltb k v) (virtuals_from virtuals) in
      (and_left x y h, and_right x y h)

  once : defects_in_range v defects ≡ true → (all (λ x. ltb x v) (map to_nat defects) ≡ true) × (distinct (map to_nat defects) ≡ true)
  unfolding defects_in_range
  once h =
      let x = all (λ k. ltb k v) (map to_nat defects) in
      let y = distinct (map to_nat defects) in
      (and_left x y h, and_right x y h)

  numbers : numbers_right v edges virtuals defects duals growths distances ≡ true
      → (graph_in_range v edges virtuals ≡ true) × (defects_in_range v defects ≡ true)
      × (all (λ x. leb x dual_limit) (map to_nat duals) ≡ true) × (distances_in_range distances ≡ true)
  unfolding numbers_right
  numbers h =
      let x = graph_in_range v edges virtuals in
      let y = defects_in_range v defects in
      let z = all (λ k. leb k dual_limit) (map to_nat duals) in
      let w = all (λ k. leb k growth_limit) (map to_nat growths) in
      let d = distances_in_range distances in
      let i = and_right x (y && (z && (w && d))) h in
      let j = and_right y (z && (w && d)) i in
      let k = and_right z (w && d) j in
      (and_left x (y && (z && (w && d))) h, and_left y (z && (w && d)) i, and_left z (w && d) j, and_right w d k)

  chain : table_refusal v e edges virtuals defects duals growths distances ≡ 0
      → (sizes_right v e edges ≡ true) × (lengths_right v e defects duals growths distances ≡ true)
      × (numbers_right v edges virtuals defects duals growths distances ≡ true)
  unfolding table_refusal
  chain h =
      let s = sizes_right v e edges in
      let l = lengths_right v e defects duals growths distances in
      let n = numbers_right v edges virtuals defects duals growths distances in
      let p = passed (not s) 3 (if not l then 1 else if not n then 4 else 0) h in
      let q = passed (not l) 0 (if not n then 4 else 0) p.1 in
      let r = passed (not n) 3 0 q.1 in
      (not-false s p.0, not-false l q.0, not-false n r.0)

  pub accepted-of : table_refusal v e edges virtuals defects duals growths distances ≡ 0 → Accepted v e edges virtuals defects duals growths distances
  accepted-of h =
      let c = chain h in
      let s = sized c.0 in
      let z = sizes-in v e 1 0 s.0 in
      let l = lengths c.1 in
      let n = numbers c.2 in
      let g = graphs n.0 in
      let o = once n.1 in
      record {
        v-max = z.v-max;
        e-max = z.e-max;
        sizes = s.0;
        edge-count = s.1;
        dual-count = l.0;
        growth-count = l.1;
        distance-count = l.2;
        edges-ok = g.0;
        virtuals-ok = g.1;
        defects-ok = o.0;
        defects-once = o.1;
        duals-ok = n.2;
        distances-ok = n.3;
      }

  module _ (a : Accepted v e edges virtuals defects duals growths distances) where
    -- the graph can be opened
    opens : open_refusal v e 1 0 (edges_from edges) (virtuals_from virtuals) true ≡ 0
    unfolding open_refusal
    opens = let q : eqb (length (edges_from edges)) e ≡ true = count in rw (a.sizes, q, a.virtuals-ok, a.edges-ok)
      where
        count : eqb (length (edges_from edges)) e ≡ true
        count = rw (edges-count edges, a.edge-count) (eq-eqb e e refl)

    pub formed : WellFormed (graph_in v edges virtuals)
    formed = well-formed v (edges_from edges) (virtuals_from virtuals) e 1 0 true opens

    pub defects-few : length defects ≤ 1024
    defects-few =
        let l = distinct-length 1024 (map to_nat defects) a.defects-once (below_more v 1024 a.v-max (map to_nat defects) a.defects-ok) in
        omega (arith, numbers-long defects)

-- The graph that the words give, side by side.
use Prim.Native.Nat.{ℕ, zero, suc, ◌+◌, ◌-◌, ◌*◌, ◌/◌, ◌%◌, ◌<◌}
use native.Mathlib.Omega.{arith}
use Rattle.std.specs.Prelude.{◌≡◌, true, false, List, [], ◌∷◌, map, ℤ, get_or}
use Rattle.std.proofs.Math.Path.{refl, ap}
use Rattle.std.proofs.Common.{◌∙◌}
use Rattle.std.proofs.Math.ListN.{length, get_or-map}
use Rattle.std.proofs.lemmas.List.{length-map}
use Rattle.graph.specs.Basic.{member}
use Rattle.graph.specs.Open.{Edge, ends_of, flag_in}
use Rattle.graph.specs.Opening.{given_at, edge_at, edges_in, edges_from, virtuals_from}
use Rattle.graph.specs.laws.State.{by-parity}
use Rattle.graph.specs.laws.Shape.{length-ends}
use Rattle.graph.specs.laws.Opened.{get_d_any, get_d-tabled}
use Rattle.graph.specs.laws.Members.{by-test}
use Rattle.open_graph.specs.laws.Open.{edges-count, edges-get}
use Rattle.distance.specs.Graph.{WeightedGraph, Virtual, sides, other_side, near, across, weight}
use Rattle.opened_graph.specs.OpenedGraph.{opened_graph}
use Rattle.table_words.specs.Sides.{near_in, across_in, weight_in}

ends-left : (es : List Edge) (i : ℕ) (d : Edge) → i < length es → get_or (ends_of es) (2 * i) 0 ≡ (get_or es i d).left
unfolding ends_of
ends-left [] i d h = absurd (omega arith)
ends-left (e ∷ es) zero d h = refl
ends-left (e ∷ es) (suc i) d h = let q : 2 * suc i ≡ suc (suc (2 * i)) = omega arith in rw q (ends-left es i d (omega arith))

ends-right : (es : List Edge) (i : ℕ) (d : Edge) → i < length es → get_or (ends_of es) (2 * i + 1) 0 ≡ (get_or es i d).right
unfolding ends_of
ends-right [] i d h = absurd (omega arith)
ends-right (e ∷ es) zero d h = refl
ends-right (e ∷ es) (suc i) d h = let q : 2 * suc i + 1 ≡ suc (suc (2 * i + 1)) = omega arith in rw q (ends-right es i d (omega arith))

-- the graph that the words of edges and virtual vertices give
abbrev pub graph_in : ℕ → (edges virtuals : List ℤ) → WeightedGraph
graph_in v edges virtuals = opened_graph v (edges_from edges) (virtuals_from virtuals)

module _ (v e : ℕ) (edges virtuals : List ℤ) (count : edges_in edges ≡ e) where
  pub sides-are : sides (graph_in v edges virtuals) ≡ 2 * e
  unfolding opened_graph
  sides-are = length-ends (edges_from edges) ∙ ap (λ k. 2 * k) (edges-count edges ∙ count)

  pub size_is : (graph_in v edges virtuals).size ≡ v
  unfolding opened_graph
  size_is = refl

  inside : (i : ℕ) → i < e → i < length (edges_from edges)
  inside i h = rw (edges-count edges) (omega arith)

  left_is : (i : ℕ) → i < e → get_or (ends_of (edges_from edges)) (2 * i) 0 ≡ given_at edges (3 * i)
  unfolding edge_at
  left_is i h = ends-left (edges_from edges) i (edge_at edges 0) (inside i h) ∙ ap (λ (x : Edge). x.left) (edges-get edges i (omega arith))

  right_is : (i : ℕ) → i < e → get_or (ends_of (edges_from edges)) (2 * i + 1) 0 ≡ given_at edges (3 * i + 1)
  unfolding edge_at
  right_is i h = ends-right (edges_from edges) i (edge_at edges 0) (inside i h) ∙ ap (λ (x : Edge). x.right) (edges-get edges i (omega arith))

  module _ (s : ℕ) (h : s < 2 * e) where
    pub near-is : near (graph_in v edges virtuals) s ≡ near_in edges s
    unfolding near near_in opened_graph
    near-is =
        by-parity (get_or (ends_of (edges_from edges)) s 0 ≡ given_at edges (3 * (s / 2) + s % 2)) s
        (λ p. let q : 2 * (s / 2) ≡ s = omega arith in let r : 3 * (s / 2) + s % 2 ≡ 3 * (s / 2) = omega arith in
        rw r (rw q at (left_is (s / 2) (omega arith))))
        (λ p. let q : 2 * (s / 2) + 1 ≡ s = omega arith in let r : 3 * (s / 2) + s % 2 ≡ 3 * (s / 2) + 1 = omega arith in
        rw r (rw q at (right_is (s / 2) (omega arith))))

    pub across-is : across (graph_in v edges virtuals) s ≡ across_in edges s
    unfolding across across_in other_side opened_graph
    across-is =
        by-parity (get_or (ends_of (edges_from edges)) (s + 1 - 2 * (s % 2)) 0 ≡ given_at edges (3 * (s / 2) + (1 - s % 2))) s
        (λ p. let q : 2 * (s / 2) + 1 ≡ s + 1 - 2 * (s % 2) = omega arith in let r : 3 * (s / 2) + (1 - s % 2) ≡ 3 * (s / 2) + 1 = omega arith in
        rw r (rw q at (right_is (s / 2) (omega arith))))
        (λ p. let q : 2 * (s / 2) ≡ s + 1 - 2 * (s % 2) = omega arith in let r : 3 * (s / 2) + (1 - s % 2) ≡ 3 * (s / 2) = omega arith in
        rw r (rw q at (left_is (s / 2) (omega arith))))

    pub weight_is : weight (graph_in v edges virtuals) s ≡ weight_in edges s
    unfolding weight weight_in opened_graph edge_at
    weight_is =
        let i = s / 2 in
        let w : Edge → ℕ = λ x. x.weight in
        let l : i < length (edges_from edges) = inside i (omega arith) in
        get_d_any (map w (edges_from edges)) i 0 (w (edge_at edges 0)) (rw (length-map (edges_from edges) w) l)
        ∙ get_or-map w (edges_from edges) i (edge_at edges 0)
        ∙ ap w (edges-get edges i (omega arith))

-- ---- virtual vertices

module _ (v : ℕ) (edges virtuals : List ℤ) (a : ℕ) (in-a : a < v) where
  flag_is : get_or (graph_in v edges virtuals).virtual a 0 ≡ flag_in (virtuals_from virtuals) a
  unfolding opened_graph
  flag_is = get_d-tabled (flag_in (virtuals_from virtuals)) v a 0 in-a

  pub virtual-member : Virtual (graph_in v edges virtuals) a → member a (virtuals_from virtuals) ≡ true
  virtual-member h = by-test (member a (virtuals_from virtuals)) (λ e. e) (λ e. absurd (omega (arith, none e, flag_is)))
    where
      none : member a (virtuals_from virtuals) ≡ false → flag_in (virtuals_from virtuals) a ≡ 0
      none e = unfold flag_in in (rw e)

  pub member-virtual : member a (virtuals_from virtuals) ≡ true → Virtual (graph_in v edges virtuals) a
  member-virtual e = let one : flag_in (virtuals_from virtuals) a ≡ 1 = unfold flag_in in (rw e) in omega (arith, one, flag_is)

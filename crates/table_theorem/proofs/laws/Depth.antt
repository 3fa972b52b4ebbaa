-- In a state without blossoms, with positive weights, the depth that the invariant of crate `reachable` gives a vertex is its distance from
-- the defect of the node that holds it; the growth of its sides follows.
use Rattle.std.specs.Prelude.{ℕ, zero, suc, ◌+◌, ◌-◌, ◌≤◌, ◌<◌, ◌≡◌, ◌≢◌}
use Rattle.std.proofs.Common.{arith, sym, ap, ◌∙◌}
use Rattle.std.proofs.Math.Decide.{ℕ_discrete as dec_eq, dec_lt}
use Rattle.std.proofs.Math.Logic.{by_cases}
use Rattle.std.proofs.Math.ListN.{get_or-eq_default}
use Rattle.graph.specs.State.{State, defect_vertex, opposite, vertex_count, side_count, node_count, end_at, growth_at, vertex_holder_at, class_of, parent_of, dual_of, weight_over}
use Rattle.graph.specs.laws.State.{opposite-opposite}
use Rattle.reachable.specs.Invariant.{Invariant}
use Rattle.reachable.specs.laws.prepare.Preparation.{invariant-numbers}
use Rattle.reachable.specs.laws.WithoutBlossoms.{outward, inward, across as sideways, PredecessorOf, defect-vertex-held, depth-le-dual, depth-differ-weight, border-side, held-edge, predecessor-of}
use Rattle.distance.specs.Graph.{WeightedGraph, WellFormed, sides, near, across, weight, Walk, trivial, step}
use Rattle.distance.specs.Distance.{unreachable, dist}
use Rattle.distance.specs.Table.{share}
use Rattle.distance.proofs.laws.Distance.{unreachable-is, dist-walk, dist-least}
use Rattle.distance.proofs.laws.Table.{share-outward, share-inward, share-across}
use Rattle.opened_graph.specs.laws.Graph.{SameGraph, opposite-inside, near-of-opposite, across-of-opposite, weight-of-opposite}

-- the vertex of a defect node
pub record DefectNode (c : State) (n : ℕ) : Type 0 where
  pub vertex : ℕ
  pub is : class_of c n ≡ defect_vertex vertex

-- a reachable state without blossoms, over the graph g with positive weights
pub record DefectsOnly (g : WeightedGraph) (c : State) : Type 0 where
  pub good : Invariant c
  pub outer : (m : ℕ) → m < node_count c → parent_of c m ≡ 0
  pub defect : (m : ℕ) → m < node_count c → DefectNode c m
  pub formed : WellFormed g
  pub graph : SameGraph g c.graph
  pub positive : (s : ℕ) → s < side_count c → weight_over c s ≢ 0

module _ (g : WeightedGraph) (c : State) (p : DefectsOnly g c) where
  D : SameGraph g c.graph
  D = p.graph

  -- who holds a vertex is a node
  pub holder-below : (u m : ℕ) → vertex_holder_at c u ≡ m + 1 → m < node_count c
  holder-below u m e =
      by_cases (dec_lt u (vertex_count c))
      (λ b. omega (arith, ((invariant-numbers p.good).vertices u b).vertex_holder))
      (λ b. absurd
      (let z : vertex_holder_at c u
      ≡ 0 = get_or-eq_default c.vertices.vertex_holder 0 (omega (arith, p.good.shape.vertex_holder)) in
      omega arith))

  module _ (n x : ℕ) (b : n < node_count c) (at : class_of c n ≡ defect_vertex x) where
    pub vertex-inside : x < g.size
    vertex-inside = rw (← D.size_is) inside
      where
        inside : x < vertex_count c
        inside =
            by_cases (dec_lt x (vertex_count c)) (λ q. q)
            (λ q.
            let v : vertex_holder_at c x ≡ n + 1 = (defect-vertex-held c p.good p.outer n x b at).0 in
            let z : vertex_holder_at c x ≡ 0 = get_or-eq_default c.vertices.vertex_holder 0 (omega (arith, p.good.shape.vertex_holder)) in
            absurd (omega arith))

    -- the walk by which a vertex was reached
    walk-by : (k u : ℕ) → p.good.labels.depth u < k → vertex_holder_at c u ≡ n + 1 → Walk g x u (p.good.labels.depth u)
    walk-by zero u l v = absurd (omega arith)
    walk-by (suc k) u l v =
        by_cases (dec_eq u x)
        (λ e. rw (e, (defect-vertex-held c p.good p.outer n x b at).1) trivial)
        (λ e.
        let f : PredecessorOf c p.good.labels.depth n u = predecessor-of c p.good p.outer n x b at p.positive u v e in
        let s : ℕ = f.side in
        let w : weight_over c s ≢ 0 = p.positive s f.inside in
        let r : Walk g x (end_at c (opposite s)) (p.good.labels.depth (end_at c (opposite s))) =
        walk-by k (end_at c (opposite s)) (omega (arith, f.adds)) f.held in
        let in-s : s < sides g = rw (← D.sides-are) f.inside in
        let n₁ : near g (opposite s) ≡ end_at c (opposite s) = near-of-opposite g s ∙ sym (D.across-is s) in
        let n₂ : across g (opposite s) ≡ u = across-of-opposite g s ∙ sym (D.near-is s) ∙ f.at in
        let n₃ : weight g (opposite s) ≡ weight_over c s = weight-of-opposite g s ∙ sym (D.weight_is s) in
        let t : Walk g x (across g (opposite s))
        (p.good.labels.depth (end_at c (opposite s)) + weight g (opposite s)) =
        step (opposite s) (opposite-inside g p.formed s in-s) (rw n₁ r) in
        rw f.adds (rw (n₂, n₃) at t))

    -- every walk is at least as walks-at-least
    pub record AtLeast (u m : ℕ) : Type 0 where
      pub held : vertex_holder_at c u ≡ n + 1 → p.good.labels.depth u ≤ m
      pub free : vertex_holder_at c u ≢ n + 1 → dual_of c n ≤ m

    walks-at-least : {u m : ℕ} → Walk g x u m → AtLeast u m
    walks-at-least trivial =
        record {
          held = λ v. omega (arith, (defect-vertex-held c p.good p.outer n x b at).1);
          free = λ v. absurd (v (defect-vertex-held c p.good p.outer n x b at).0);
        }
    walks-at-least (step {n = m} s h q) =
        let i : AtLeast (near g s) m = walks-at-least q in
        let in-s : s < side_count c = rw D.sides-are h in
        let e₁ : end_at c s ≡ near g s = D.near-is s in
        let e₂ : end_at c (opposite s) ≡ across g s = D.across-is s in
        let e₃ : weight_over c s ≡ weight g s = D.weight_is s in
        by_cases (dec_eq (vertex_holder_at c (near g s)) (n + 1))
        (λ v.
        let d : p.good.labels.depth (near g s) ≤ m = i.held v in
        record {
          held = λ w.
              let sl : p.good.labels.depth (end_at c (opposite s))
              ≤ p.good.labels.depth (end_at c (opposite (opposite s))) + weight_over c (opposite s) =
              depth-differ-weight c p.good p.outer n x b
              at (opposite s) (rw D.sides-are (opposite-inside g p.formed s h)) (rw e₂ w)
              (rw (far-end s, e₁) v) in
              let sl' : p.good.labels.depth (across g s) ≤ p.good.labels.depth (near g s) + weight g s = rw (far-end s, e₂, e₁, far-weight s, e₃) at sl in
              omega arith;
          free = λ w.
              let bo = border-side c p.good p.outer n x b at s in-s (rw e₁ v) (rw e₂ w) in
              let b₁ : p.good.labels.depth (near g s) + growth_at c s ≡ dual_of c n = rw e₁ at bo.0 in
              omega (arith, bo.1);
        })
        (λ v.
        let d : dual_of c n ≤ m = i.free v in
        record { held = λ w. omega (arith, depth-le-dual c p.good p.outer n x b at (across g s) w); free = λ w. omega arith })
      where
        far-end : (s : ℕ) → end_at c (opposite (opposite s)) ≡ end_at c s
        far-end s = ap (end_at c) (opposite-opposite s)

        far-weight : (s : ℕ) → weight_over c (opposite s) ≡ weight_over c s
        far-weight s = D.weight_is (opposite s) ∙ weight-of-opposite g s ∙ sym (D.weight_is s)

    small : dual_of c n < unreachable
    small = omega (arith, unreachable-is, ((invariant-numbers p.good).nodes n b).dual)

    -- what the node holds has its depth as distance; the rest is at least as far as the dual variable
    pub depth_is : (u : ℕ) → vertex_holder_at c u ≡ n + 1 → dist g x u ≡ p.good.labels.depth u
    depth_is u v =
        let le : dist g x u ≤ p.good.labels.depth u =
        dist-least g p.formed x vertex-inside (walk-by (suc (p.good.labels.depth u)) u (omega arith) v) in
        let d : p.good.labels.depth u ≤ dual_of c n = depth-le-dual c p.good p.outer n x b at u v in
        let l : dist g x u < unreachable = omega (arith, small) in
        let k : AtLeast u (dist g x u) = walks-at-least (dist-walk g p.formed x vertex-inside u l) in
        omega (arith, k.held v)

    pub far-off : (u : ℕ) → vertex_holder_at c u ≢ n + 1 → dual_of c n ≤ dist g x u
    far-off u v =
        by_cases (dec_lt (dist g x u) unreachable)
        (λ l. (walks-at-least (dist-walk g p.formed x vertex-inside u l)).free v)
        (λ l. omega (arith, small))

    -- the growth of a side at a vertex that the node holds
    pub growth-held : (s : ℕ) → s < side_count c → vertex_holder_at c (end_at c s) ≡ n + 1
        → growth_at c s ≡ share (dual_of c n) (dist g x (near g s)) (dist g x (across g s)) (weight g s)
    growth-held s h v =
        let e₁ : end_at c s ≡ near g s = D.near-is s in
        let e₂ : end_at c (opposite s) ≡ across g s = D.across-is s in
        let e₃ : weight_over c s ≡ weight g s = D.weight_is s in
        let w₀ : weight_over c s ≢ 0 = p.positive s h in
        let d₁ : dist g x (near g s) ≡ p.good.labels.depth (end_at c s) = ap (dist g x) (sym e₁) ∙ depth_is (end_at c s) v in
        let le₁ : p.good.labels.depth (end_at c s) ≤ dual_of c n = depth-le-dual c p.good p.outer n x b at (end_at c s) v in
        by_cases (dec_eq (vertex_holder_at c (end_at c (opposite s))) (n + 1))
        (λ w.
        let d₂ : dist g x (across g s) ≡ p.good.labels.depth (end_at c (opposite s)) = ap (dist g x) (sym e₂) ∙ depth_is (end_at c (opposite s)) w in
        let le₂ : p.good.labels.depth (end_at c (opposite s)) ≤ dual_of c n = depth-le-dual c p.good p.outer n x b at (end_at c (opposite s)) w in
        elim (held-edge c p.good p.outer n x b at s h v w) [
          | outward e f ↦ let q = share-outward (dual_of c n) (dist g x (near g s)) (dist g x (across g s)) (weight g s) (omega arith) in omega arith
          | inward e f ↦ let q = share-inward (dual_of c n) (dist g x (near g s)) (dist g x (across g s)) (weight g s) (omega arith) in omega arith
          | sideways e k m ↦
              let k' : p.good.labels.depth (end_at c (opposite s)) < p.good.labels.depth (end_at c s) + weight_over c s = k w₀ in
              let m' : p.good.labels.depth (end_at c s) < p.good.labels.depth (end_at c (opposite s)) + weight_over c s = m w₀ in
              let q = share-across (dual_of c n) (dist g x (near g s)) (dist g x (across g s)) (weight g s) (λ z. omega arith) (λ z. omega arith) in
              omega arith
        ])
        (λ w.
        let bo = border-side c p.good p.outer n x b at s h v w in
        let b₁ : p.good.labels.depth (end_at c s) + growth_at c s ≡ dual_of c n = bo.0 in
        let b₂ : growth_at c s + growth_at c (opposite s) ≤ weight_over c s = bo.1 in
        let d₂ : dual_of c n ≤ dist g x (across g s) = rw e₂ at (far-off (end_at c (opposite s)) w) in
        by_cases (dec_eq (dist g x (across g s)) (dist g x (near g s) + weight g s))
        (λ z. let q = share-outward (dual_of c n) (dist g x (near g s)) (dist g x (across g s)) (weight g s) z in omega arith)
        (λ z. let q = share-across (dual_of c n) (dist g x (near g s)) (dist g x (across g s)) (weight g s) z (λ k. omega arith) in omega arith))

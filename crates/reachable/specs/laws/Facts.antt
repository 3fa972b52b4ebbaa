-- What the invariant says of lists, sides and prepared nodes.
use Rattle.std.specs.Prelude.{ℕ, ◌+◌, ◌<◌, ◌≡◌, refl, ◌≢◌, true}
use Rattle.std.proofs.Common.{arith}
use Rattle.std.proofs.Math.Decide.{ℕ_discrete as dec_eq}
use Rattle.std.proofs.Math.Logic.{by_cases}
use Rattle.graph.specs.Basic.{member}
use Rattle.graph.specs.State.{State, side_count, node_count, end_at, growth_at, holder_at, vertex_holder_at, defect_at, parent_of, dual_of, boundary_of, down}
use Rattle.pass.specs.Prepare.{prepare_node}
use Rattle.reachable.specs.Invariant.{Labels, NodeInvariantOf, BoundaryHeld, Invariant}
use Rattle.reachable.specs.laws.prepare.Preparation.{prepare-ready, prepare-down, invariant-ready}

module _ (c : State) (g : Invariant c) where
  -- a side is held just where its vertex is
  pub free-together : (s : ℕ) → s < side_count c → (holder_at c s ≡ 0 → vertex_holder_at c (end_at c s) ≡ 0) × (vertex_holder_at c (end_at c s) ≡ 0 → holder_at c s ≡ 0)
  free-together s b = (
    λ e. by_cases (dec_eq (vertex_holder_at c (end_at c s)) 0) (λ q. q) (λ q. absurd (g.clusters.global.held-vertex s b q e)),
    λ e. by_cases (dec_eq (holder_at c s) 0) (λ q. q) (λ q. absurd (g.clusters.global.held-side s q e)),
  )

  -- listed sides at one vertex have the same growth
  pub same-growth : (n : ℕ) → n < node_count c → parent_of c n ≡ 0 → (s t : ℕ) → member s (boundary_of c n) ≡ true
      → member t (boundary_of c n) ≡ true → end_at c s ≡ end_at c t → growth_at c s ≡ growth_at c t
  same-growth n b o s t p q e =
      let k : Labels = g.labels in
      let i : NodeInvariantOf c k n = g.clusters.node n b o in
      let x : k.depth (end_at c s) + growth_at c s ≡ k.base n + dual_of c n = i.listed-growth s p (g.clusters.boundary-held n b o s p) in
      let y : k.depth (end_at c t) + growth_at c t ≡ k.base n + dual_of c n = i.listed-growth t q (g.clusters.boundary-held n b o t q) in
      let x' : k.depth (end_at c t) + growth_at c s ≡ k.base n + dual_of c n = rw e at x in
      omega arith

  -- preparation leaves every listed side of the node held; for shrinking, none of growth 0 but at a defect
  pub prepared-held : (n d : ℕ) → n < node_count c → parent_of c n ≡ 0 → BoundaryHeld (prepare_node c n d).state n
  prepared-held n d b o = (prepare-ready n d c g.labels c (invariant-ready c g n b o)).boundary-held

  pub prepared-grown : (n : ℕ) → n < node_count c → parent_of c n ≡ 0 → (s : ℕ)
      → member s (boundary_of (prepare_node c n down).state n) ≡ true → growth_at (prepare_node c n down).state s ≡ 0
      → defect_at (prepare_node c n down).state (end_at (prepare_node c n down).state s) ≢ 0
  prepared-grown n b o = (prepare-down n down c g.labels refl c (invariant-ready c g n b o)).zero-at-defects

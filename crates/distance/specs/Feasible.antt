-- Feasible dual variables: what growth that meets no obstacle keeps to. It is the dual constraint of minimum weight matching, stated by distances.
use Rattle.std.specs.Prelude.{◌≡◌, ◌≢◌, List, ℕ, ◌+◌, ◌≤◌, ◌<◌, length}
use Rattle.distance.specs.Graph.{WeightedGraph, Virtual}
use Rattle.distance.specs.Distance.{unreachable, dist}
use Rattle.distance.specs.Table.{dual}

-- One dual variable for each vertex, none above the limit of 1,000,000,000. Two that are above 0 sum to at most the distance between their
-- vertices, and none passes the distance to a virtual vertex.
pub record Feasible (g : WeightedGraph) (y : List ℕ) : Type 0 where
  pub sized : length y ≡ g.size
  pub bounded : (a : ℕ) → dual y a ≤ 1_000_000_000
  pub pairs : (a b : ℕ) → a < g.size → b < g.size → a ≢ b → 0 < dual y a → 0 < dual y b → dist g a b < unreachable → dual y a + dual y b ≤ dist g a b
  pub virtuals : (a v : ℕ) → a < g.size → v < g.size → Virtual g v → dual y a ≤ dist g a v

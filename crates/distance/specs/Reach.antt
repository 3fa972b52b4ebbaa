-- Which vertices reach a virtual one, told by marks that spread along sides: a list of numbers, one for each vertex.
use Rattle.std.specs.Prelude.{◌≡◌, List, ℕ, ◌<◌, length, get_or}
use Rattle.distance.specs.Graph.{WeightedGraph, Virtual, sides, near, across}
use Rattle.distance.specs.Nearest.{ReachesVirtual}

-- vertex u has a mark
abbrev pub HasMark : List ℕ → ℕ → Type 0
HasMark m u = 0 < get_or m u 0

-- marks in the making: every virtual vertex has one, and from each vertex that has one a walk leads to a virtual vertex
pub record ReachMarks (g : WeightedGraph) (m : List ℕ) : Type 0 where
  pub sized : length m ≡ g.size
  pub virtuals : (v : ℕ) → v < g.size → Virtual g v → HasMark m v
  pub reaching : (u : ℕ) → HasMark m u → ReachesVirtual g u

-- no mark is left to spread: where the vertex of a side has one, the vertex across has one
abbrev pub AllSpread : WeightedGraph → List ℕ → Type 0
AllSpread g m = (s : ℕ) → s < sides g → HasMark m (near g s) → HasMark m (across g s)

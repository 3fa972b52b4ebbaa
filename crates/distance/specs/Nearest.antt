-- The nearest virtual vertex.
use Rattle.std.specs.Prelude.{◌≡◌, ℕ, zero, suc, ◌<◌, min, get_or}
use Rattle.distance.specs.Graph.{WeightedGraph, Virtual, Walk}
use Rattle.distance.specs.Distance.{unreachable, dist}

-- a walk from a to a virtual vertex
pub record ReachesVirtual (g : WeightedGraph) (a : ℕ) : Type 0 where
  pub vertex : ℕ
  pub placed : vertex < g.size
  pub virtual : Virtual g vertex
  pub total : ℕ  -- its length
  pub walk : Walk g a vertex total

-- from every vertex a walk leads to a virtual one
abbrev pub VirtualInReach : WeightedGraph → Type 0
VirtualInReach g = (a : ℕ) → a < g.size → ReachesVirtual g a

-- ---- the same as a program

-- d where the flag of a vertex says that it is virtual
unfoldable pub if_virtual : ℕ → ℕ → ℕ
if_virtual zero d = unreachable
if_virtual (suc f) d = d

-- the least distance from a to a virtual vertex below n
unfoldable pub nearest_virtual_below : WeightedGraph → ℕ → ℕ → ℕ
nearest_virtual_below g a zero = unreachable
nearest_virtual_below g a (suc n) = min (nearest_virtual_below g a n) (if_virtual (get_or g.virtual n 0) (dist g a n))

-- the least distance from a to a virtual vertex; unreachable if no walk leads to one
unfoldable pub nearest_virtual : WeightedGraph → ℕ → ℕ
nearest_virtual g a = nearest_virtual_below g a g.size

-- a virtual vertex at that distance
pub record NearestVirtual (g : WeightedGraph) (a : ℕ) : Type 0 where
  pub vertex : ℕ
  pub placed : vertex < g.size
  pub virtual : Virtual g vertex
  pub reached : dist g a vertex < unreachable
  pub nearest-is : dist g a vertex ≡ nearest_virtual g a

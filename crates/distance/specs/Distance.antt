-- The distance between two vertices, as a program: relaxation until nothing changes. Theorems says what it computes.
use Rattle.std.specs.Prelude.{◌≡◌, ◌≢◌, true, false, List, [], ◌∷◌, ℕ, zero, suc, ◌+◌, ◌≤◌, ◌<◌, min, leb, length, get_or, set, replicate}
use Rattle.distance.specs.Graph.{WeightedGraph, sides, near, across, weight, Walk}

-- The distance to a vertex that no walk reaches. It must be above every dual variable (SPECIFICATION 11.2); those are
-- at most 1,000,000,000.
unfoldable pub unreachable : ℕ
unreachable = 2_000_000_000_000

-- ---- relaxation

-- the entry for vertex u in a list of distances
abbrev pub distance_at : List ℕ → ℕ → ℕ
distance_at d u = get_or d u unreachable

-- at first a is at distance 0 and no other vertex is reached
unfoldable pub start_distances : WeightedGraph → ℕ → List ℕ
start_distances g a = set (replicate g.size unreachable) a 0

-- the length of the way to the vertex across that passes through side s
abbrev pub length_through : WeightedGraph → ℕ → List ℕ → ℕ
length_through g s d = distance_at d (near g s) + weight g s

-- the vertex across from side s may be nearer through s
unfoldable pub relax_side : WeightedGraph → ℕ → List ℕ → List ℕ
relax_side g s d = set d (across g s) (min (distance_at d (across g s)) (length_through g s d))

-- sides 0 to k - 1 in turn
unfoldable pub relax_sides : WeightedGraph → ℕ → List ℕ → List ℕ
relax_sides g zero d = d
relax_sides g (suc k) d = relax_side g k (relax_sides g k d)

-- the sum of a list of distances
abbrev pub sum_of : List ℕ → ℕ
sum_of [] = 0
sum_of (x ∷ xs) = x + sum_of xs

-- all sides again and again until the sum stays, at most f times
unfoldable pub relax_until_stable : WeightedGraph → ℕ → List ℕ → List ℕ
relax_until_stable g zero d = d
relax_until_stable g (suc f) d =
    let r = relax_sides g (sides g) d in
    elim (leb (sum_of d) (sum_of r)) [ true ↦ d | false ↦ relax_until_stable g f r ]

-- Each round but the last lowers the sum, so that the first sum is rounds enough.
unfoldable pub distances_from : WeightedGraph → ℕ → List ℕ
distances_from g a = relax_until_stable g (sum_of (start_distances g a)) (start_distances g a)

-- the distance from a to u
unfoldable pub dist : WeightedGraph → ℕ → ℕ → ℕ
dist g a u = distance_at (distances_from g a) u

-- ---- what relaxation keeps, and where it ends

-- a list of distances from a in the making: one for each vertex, 0 at a, and each below `unreachable` is the length of a walk
pub record Relaxed (g : WeightedGraph) (a : ℕ) (d : List ℕ) : Type 0 where
  pub sized : length d ≡ g.size
  pub own : distance_at d a ≡ 0
  pub capped : (u : ℕ) → distance_at d u ≤ unreachable
  pub walked : (u : ℕ) → distance_at d u < unreachable → Walk g a u (distance_at d u)

-- no way through a side is shorter
abbrev pub Stable : WeightedGraph → List ℕ → Type 0
Stable g d = (s : ℕ) → s < sides g → distance_at d (across g s) ≤ length_through g s d

-- ---- predecessors

-- a side at u whose edge is the last of a shortest walk from a to u; the vertex across is the predecessor of u
pub record Predecessor (g : WeightedGraph) (a u : ℕ) : Type 0 where
  pub side : ℕ
  pub inside : side < sides g
  pub starts : near g side ≡ u
  pub reached : dist g a (across g side) < unreachable
  pub adds : dist g a u ≡ dist g a (across g side) + weight g side

-- D is 0 at a, rises along an edge by at most its weight, and every other vertex in reach has a predecessor.
pub record DistanceCertificate (g : WeightedGraph) (a : ℕ) (D : ℕ → ℕ) : Type 0 where
  pub self : D a ≡ 0
  pub capped : (u : ℕ) → D u ≤ unreachable
  pub edge : (s : ℕ) → s < sides g → D (across g s) ≤ D (near g s) + weight g s
  pub predecessor : (u : ℕ) → u ≢ a → D u < unreachable → (s : ℕ) × (s < sides g) × (near g s ≡ u) × (D u ≡ D (across g s) + weight g s)

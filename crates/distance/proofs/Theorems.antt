-- What is proved of distances and of the table that follows from them. The proofs are in laws/.
use Rattle.std.specs.Prelude.{◌≡◌, ◌≢◌, ◌↔◌, List, [], ◌∷◌, ℕ, ◌+◌, ◌≤◌, ◌<◌, set}
use Rattle.std.proofs.Common.{arith}
use Rattle.distance.specs.Graph.{WeightedGraph, WellFormed, Positive, Virtual, sides, other_side, near, across, weight, Walk, ShortestLength}
use Rattle.distance.specs.Distance.{unreachable, distance_at, dist, Relaxed, Stable, Predecessor, DistanceCertificate}
use Rattle.distance.specs.Nearest.{ReachesVirtual, VirtualInReach, nearest_virtual, NearestVirtual}
use Rattle.distance.specs.Reach.{HasMark, ReachMarks, AllSpread}
use Rattle.distance.specs.Table.{dual, Covers, share, growth, table_from_distances}
use Rattle.distance.specs.Feasible.{Feasible}
use Rattle.distance.specs.Examples.{SameTable, zero_weight, no_virtual}
use Rattle.distance.proofs.laws.Distance.{unreachable-is, dist-shortest, dist-unreachable, dist-bound, dist-zero-iff, dist-sym, dist-triangle, dist-predecessor}
use Rattle.distance.proofs.laws.Certificate.{certified-distance}
use Rattle.distance.proofs.laws.Settled.{dist-certificate, stable-is-dist}
use Rattle.distance.proofs.laws.Nearest.{nearest-least, nearest-vertex, nearest-in-reach}
use Rattle.distance.proofs.laws.Reach.{spread-mark, marks-are-reach}
use Rattle.distance.proofs.laws.Table.{growth-free}
use Rattle.distance.proofs.laws.Feasible.{one_covers, pair-clear, growth-is}
use Rattle.distance.proofs.laws.Edge.{edge-fits}
use Rattle.distance.proofs.laws.Injective.{table_from_distances-equal}
use Rattle.distance.proofs.laws.Needed.{zero-reach, zero_same, none-positive, none-same}

-- ---- the distance

-- The distance to a vertex that can't be reached is above every dual variable.
pub unreachable-above-duals : 1_000_000_000 < unreachable
unreachable-above-duals = omega (arith, unreachable-is)

module _ (g : WeightedGraph) (ok : WellFormed g) (a : ℕ) (in-a : a < g.size) where
  -- Where a walk leads from a to u, the distance is the least length of such a walk.
  pub distance-is-shortest : (u n : ℕ) → Walk g a u n → ShortestLength g a u (dist g a u)
  distance-is-shortest u n w = dist-shortest g ok a in-a w

  -- The distance is `unreachable` exactly where no walk leads from a to u;
  pub unreachable-without-walk : (u : ℕ) → (dist g a u ≡ unreachable) ↔ ((n : ℕ) → Walk g a u n → ⊥)
  unreachable-without-walk = dist-unreachable g ok a in-a

  -- otherwise it is at most 1,023 weights of 1,000,000.
  pub distance-bounded : (u : ℕ) → dist g a u < unreachable → dist g a u ≤ 1_023_000_000
  distance-bounded = dist-bound g ok a in-a

  -- With positive weights only a itself is at distance 0.
  pub distance-zero : Positive g → (u : ℕ) → (dist g a u ≡ 0) ↔ (u ≡ a)
  distance-zero = dist-zero-iff g ok a in-a

  pub distance-symmetric : (b : ℕ) → b < g.size → dist g a b ≡ dist g b a
  distance-symmetric b = dist-sym g ok a b in-a

  pub distance-triangle : (u b : ℕ) → u < g.size → dist g a b ≤ dist g a u + dist g u b
  distance-triangle u b = dist-triangle g ok a u b in-a

  -- A vertex in reach other than a has a neighbour from which a shortest walk comes.
  pub distance-predecessor : (u : ℕ) → u ≢ a → dist g a u < unreachable → Predecessor g a u
  distance-predecessor = dist-predecessor g ok a in-a

  -- With positive weights, numbers D that are 0 at a, rise along an edge by at most its weight, and have a predecessor for each other vertex in reach are
  -- the distances.
  pub certificate-is-distance : Positive g → (D : ℕ → ℕ) → DistanceCertificate g a D → (u : ℕ) → D u ≡ dist g a u
  certificate-is-distance positive = certified-distance g ok positive a in-a

  -- The distances are such numbers, whatever the weights.
  pub distance-certificate : DistanceCertificate g a (dist g a)
  distance-certificate = dist-certificate g ok a in-a

  -- In whatever order sides were relaxed: once none makes an entry shorter, the entries are the distances.
  pub settled-distance : (d : List ℕ) → Relaxed g a d → Stable g d → (u : ℕ) → distance_at d u ≡ dist g a u
  settled-distance = stable-is-dist g ok a in-a

  -- ---- the nearest virtual vertex

  -- No virtual vertex is nearer,
  pub nearest-virtual-least : (v : ℕ) → v < g.size → Virtual g v → nearest_virtual g a ≤ dist g a v
  nearest-virtual-least = nearest-least g a

  -- one is as near, if any is in reach,
  pub nearest-virtual-vertex : nearest_virtual g a < unreachable → NearestVirtual g a
  nearest-virtual-vertex = nearest-vertex g a

  -- and one is in reach exactly where a walk leads to it.
  pub nearest-virtual-in-reach : (nearest_virtual g a < unreachable) ↔ ReachesVirtual g a
  nearest-virtual-in-reach = nearest-in-reach g ok a in-a

-- ---- marks of vertices that reach a virtual one

module _ (g : WeightedGraph) (ok : WellFormed g) (m : List ℕ) (marks : ReachMarks g m) where
  -- A mark may spread along a side, from its vertex to the one across.
  pub mark-spreads : (s : ℕ) → s < sides g → HasMark m (near g s) → ReachMarks g (set m (across g s) 1)
  mark-spreads = spread-mark g ok m marks

  -- Once none is left to spread, just those vertices have a mark from which a walk leads to a virtual one.
  pub marks-tell-reach : AllSpread g m → (u : ℕ) → u < g.size → HasMark m u ↔ ReachesVirtual g u
  marks-tell-reach = marks-are-reach g ok m marks

-- ---- growth under feasible dual variables

module _ (g : WeightedGraph) (ok : WellFormed g) (y : List ℕ) (feasible : Feasible g y) where
  -- At most one defect covers a vertex, so that "that defect" of the rule (SPECIFICATION 11.2) has a meaning.
  pub one-defect-covers : (a b u : ℕ) → u < g.size → Covers g y a u → Covers g y b u → a ≡ b
  one-defect-covers = one_covers g ok y feasible

  -- Where neither of two vertices covers the other, their dual variables sum to at most their distance, also if one of them is 0.
  pub duals-within-distance : (a b : ℕ) → a < g.size → b < g.size → a ≢ b → dual y b ≤ dist g b a → dual y a ≤ dist g a b → dual y a + dual y b ≤ dist g a b
  duals-within-distance = pair-clear g ok y feasible

  -- The growth of a side at a vertex that a covers is what a gives it;
  pub growth-where-covered : (a s : ℕ) → s < sides g → Covers g y a (near g s)
      → growth g y s ≡ share (dual y a) (dist g a (near g s)) (dist g a (across g s)) (weight g s)
  growth-where-covered = growth-is g ok y feasible

  -- at a vertex that no defect covers it is 0.
  pub growth-where-free : (s : ℕ) → ((a : ℕ) → a < g.size → ¬ Covers g y a (near g s)) → growth g y s ≡ 0
  growth-where-free = growth-free g y

  -- The two growths of an edge pass its weight only where one defect covers both its ends.
  pub edge-within-weight : (s : ℕ) → s < sides g → ((a : ℕ) → Covers g y a (near g s) → ¬ Covers g y a (across g s))
      → growth g y s + growth g y (other_side s) ≤ weight g s
  edge-within-weight = edge-fits g ok y feasible

-- ---- the table tells the dual variables

-- Two lists of feasible dual variables have the same table exactly if they are the same: where weights are positive and from every vertex
-- a walk leads to a virtual one.
pub table-tells-duals : (g : WeightedGraph) → WellFormed g → Positive g → VirtualInReach g
    → (y z : List ℕ) → Feasible g y → Feasible g z → (table_from_distances g y ≡ table_from_distances g z) ↔ (y ≡ z)
table-tells-duals = table_from_distances-equal

-- Positive weights are needed: over an edge of weight 0 a defect at one end or at the other gives one table.
pub positive-weights-needed : VirtualInReach zero_weight × SameTable zero_weight (1 ∷ 0 ∷ 0 ∷ []) (0 ∷ 1 ∷ 0 ∷ [])
positive-weights-needed = (zero-reach, zero_same)

-- A virtual vertex in reach is needed: a defect that covers all that it reaches can grow on without a change of the table.
pub virtual-in-reach-needed : Positive no_virtual × SameTable no_virtual (3 ∷ 0 ∷ []) (4 ∷ 0 ∷ [])
virtual-in-reach-needed = (none-positive, none-same)

-- On a graph with an edge of weight 0, and on one without a virtual vertex, different feasible dual variables may have one table.
use Rattle.std.specs.Prelude.{◌≡◌, refl, ◌≢◌, List, [], ◌∷◌, ℕ, zero, suc, ◌≤◌, ◌<◌, get_or}
use Rattle.std.proofs.Common.{ap, arith}
use Rattle.distance.specs.Graph.{WeightedGraph, WellFormed, Positive, near, across, weight}
use Rattle.distance.specs.Distance.{unreachable}
use Rattle.distance.specs.Nearest.{nearest_virtual, VirtualInReach}
use Rattle.distance.specs.Feasible.{Feasible}
use Rattle.distance.specs.Examples.{SameTable, zero_weight, no_virtual}
use Rattle.distance.specs.Opens.{everything}
use Rattle.distance.proofs.laws.Distance.{unreachable-is}
use Rattle.distance.proofs.laws.Nearest.{nearest-in-reach}
use Rattle.distance.proofs.laws.Feasible.{single-feasible}

-- what `WellFormed` asks of a side
abbrev SideFormed : WeightedGraph → ℕ → Type 0
SideFormed g s = (near g s < g.size) × (near g s ≢ across g s) × (weight g s ≤ 1_000_000)

-- ---- an edge of weight 0

zero-side : (s : ℕ) → s < 4 → SideFormed zero_weight s
unfolding everything
zero-side zero h = (omega arith, λ e. omega arith, omega arith)
zero-side (suc zero) h = (omega arith, λ e. omega arith, omega arith)
zero-side (suc (suc zero)) h = (omega arith, λ e. omega arith, omega arith)
zero-side (suc (suc (suc zero))) h = (omega arith, λ e. omega arith, omega arith)
zero-side (suc (suc (suc (suc s)))) h = absurd (omega arith)

zero-formed : WellFormed zero_weight
zero-formed = record { paired = refl; placed = λ s h. (zero-side s h).0; apart = λ s h. (zero-side s h).1; light = λ s h. (zero-side s h).2; small = omega arith }

zero-nearest : (a : ℕ) → a < 3 → nearest_virtual zero_weight a ≤ 4
unfolding everything
zero-nearest zero h = omega arith
zero-nearest (suc zero) h = omega arith
zero-nearest (suc (suc zero)) h = omega arith
zero-nearest (suc (suc (suc a))) h = absurd (omega arith)

pub zero-reach : VirtualInReach zero_weight
zero-reach a h = (nearest-in-reach zero_weight zero-formed a h).0 (omega (arith, zero-nearest a h, unreachable-is))

nearest-from-0 : nearest_virtual zero_weight 0 ≡ 4
unfolding everything
nearest-from-0 = refl

nearest-from-1 : nearest_virtual zero_weight 1 ≡ 4
unfolding everything
nearest-from-1 = refl

zero-first : Feasible zero_weight (1 ∷ 0 ∷ 0 ∷ [])
zero-first = single-feasible zero_weight 0 1 (omega arith) (omega arith) (omega (arith, nearest-from-0))

zero-second : Feasible zero_weight (0 ∷ 1 ∷ 0 ∷ [])
zero-second = single-feasible zero_weight 1 1 (omega arith) (omega arith) (omega (arith, nearest-from-1))

-- a defect at one end or at the other
pub zero_same : SameTable zero_weight (1 ∷ 0 ∷ 0 ∷ []) (0 ∷ 1 ∷ 0 ∷ [])
unfolding everything
zero_same =
    record {
      formed = zero-formed;
      first = zero-first;
      second = zero-second;
      differ = λ e. let d = ap (λ (y : List ℕ). get_or y 0 0) e in
          omega arith;
      same = refl;
    }

-- ---- no virtual vertex

none-side : (s : ℕ) → s < 2 → SideFormed no_virtual s
unfolding everything
none-side zero h = (omega arith, λ e. omega arith, omega arith)
none-side (suc zero) h = (omega arith, λ e. omega arith, omega arith)
none-side (suc (suc s)) h = absurd (omega arith)

none-formed : WellFormed no_virtual
none-formed = record { paired = refl; placed = λ s h. (none-side s h).0; apart = λ s h. (none-side s h).1; light = λ s h. (none-side s h).2; small = omega arith }

pub none-positive : Positive no_virtual
unfolding everything
none-positive zero h = omega arith
none-positive (suc zero) h = omega arith
none-positive (suc (suc s)) h = absurd (omega arith)

none-nearest : nearest_virtual no_virtual 0 ≡ unreachable
unfolding everything
none-nearest = refl

none-feasible : (k : ℕ) → k ≤ 1_000_000_000 → Feasible no_virtual (k ∷ 0 ∷ [])
none-feasible k h = single-feasible no_virtual 0 k (omega arith) h (omega (arith, none-nearest, unreachable-is))

-- a defect that covers all of its part of the graph and grows on
pub none-same : SameTable no_virtual (3 ∷ 0 ∷ []) (4 ∷ 0 ∷ [])
unfolding everything
none-same =
    record {
      formed = none-formed;
      first = none-feasible 3 (omega arith);
      second = none-feasible 4 (omega arith);
      differ = λ e. let d = ap (λ (y : List ℕ). get_or y 0 0) e in
          omega arith;
      same = refl;
    }

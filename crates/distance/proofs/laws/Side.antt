-- The two sides of an edge.
use Rattle.std.specs.Prelude.{◌≡◌, refl, ℕ, ◌*◌, ◌/◌, ◌<◌, length}
use Rattle.std.proofs.Common.{arith}
use Rattle.distance.specs.Graph.{WeightedGraph, WellFormed, sides, other_side, near, across, weight}

pub opposite-opposite : (s : ℕ) → other_side (other_side s) ≡ s
unfolding other_side
opposite-opposite s = omega arith

pub opposite-edge : (s : ℕ) → other_side s / 2 ≡ s / 2
unfolding other_side
opposite-edge s = omega arith

pub opposite-below : (s n : ℕ) → s < 2 * n → other_side s < 2 * n
unfolding other_side
opposite-below s n h = omega arith

pub near-opposite : (g : WeightedGraph) (s : ℕ) → near g (other_side s) ≡ across g s
unfolding near across
near-opposite g s = refl

pub across-opposite : (g : WeightedGraph) (s : ℕ) → across g (other_side s) ≡ near g s
unfolding near across
across-opposite g s = rw opposite-opposite

pub weight-opposite : (g : WeightedGraph) (s : ℕ) → weight g (other_side s) ≡ weight g s
unfolding weight
weight-opposite g s = rw opposite-edge

module _ (g : WeightedGraph) (ok : WellFormed g) where
  pub opposite-in : (s : ℕ) → s < sides g → other_side s < sides g
  opposite-in s h =
      let p = opposite-below s (length g.weights) (omega (arith, ok.paired)) in
      omega (arith, ok.paired)

  pub across-placed : (s : ℕ) → s < sides g → across g s < g.size
  across-placed s h = rw near-opposite at (ok.placed (other_side s) (opposite-in s h))

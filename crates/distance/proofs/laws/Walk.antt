-- Walks after one another, and backward.
use Rattle.std.specs.Prelude.{ℕ, ◌+◌, ◌<◌}
use Rattle.std.proofs.Common.{add_assoc, add-zero, zero-add, add_comm}
use Rattle.distance.specs.Graph.{WeightedGraph, WellFormed, sides, other_side, near, across, weight, Walk, trivial, step}
use Rattle.distance.proofs.laws.Side.{opposite-in, near-opposite, across-opposite, weight-opposite, across-placed}

-- one walk after another
pub join-walks : {g : WeightedGraph} {a b c m n : ℕ} → Walk g a b m → Walk g b c n → Walk g a c (m + n)
join-walks {m} p trivial = rw add-zero p
join-walks {m} p (step {n} s h q) = rw (← add_assoc m n _) (step s h (join-walks p q))

-- the walk that crosses side s
pub cross-side : {g : WeightedGraph} (s : ℕ) → s < sides g → Walk g (near g s) (across g s) (weight g s)
cross-side {g} s h = let p : Walk g (near g s) (across g s) (0 + weight g s) = step s h trivial in rw zero-add at p

module _ {g : WeightedGraph} (ok : WellFormed g) where
  pub reverse-walk : {a u n : ℕ} → Walk g a u n → Walk g u a n
  reverse-walk trivial = trivial
  reverse-walk (step {n} s h p) =
      let back : Walk g (across g s) (near g s) (weight g s) =
      rw (near-opposite, across-opposite, weight-opposite)
      at (cross-side {g = g} (other_side s) (opposite-in g ok s h)) in
      rw (add_comm n (weight g s)) (join-walks back (reverse-walk p))

module _ (g : WeightedGraph) (ok : WellFormed g) (a : ℕ) (in-a : a < g.size) where
  -- a walk leads to a vertex
  pub walk-placed : {u n : ℕ} → Walk g a u n → u < g.size
  walk-placed trivial = in-a
  walk-placed (step s h p) = across-placed g ok s h

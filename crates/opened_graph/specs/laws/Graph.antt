-- A state's graph and a graph of crate `distance`: where they are the same, and the two ways to write the other side of an edge.
use Rattle.std.specs.Prelude.{ℕ, ◌+◌, ◌-◌, ◌*◌, ◌%◌, ◌<◌, ◌≡◌, length, get_or}
use Rattle.std.proofs.Common.{arith}
use Rattle.graph.specs.State.{Graph as StateGraph, opposite, edge_of}
use Rattle.graph.specs.laws.State.{by-parity, opposite-even, opposite-odd}
use Rattle.distance.specs.Graph.{WeightedGraph, WellFormed, sides, near, across, weight, other_side}
use Rattle.distance.proofs.laws.Side.{opposite-in, near-opposite, across-opposite, weight-opposite}

-- both ways to write the other side of an edge
pub opposite-same : (s : ℕ) → opposite s ≡ other_side s
unfolding other_side
opposite-same s = by-parity (opposite s ≡ s + 1 - 2 * (s % 2)) s (λ e. rw (opposite-even s e) (omega arith)) (λ e. rw (opposite-odd s e) (omega arith))

-- what is read off a state's graph G is what g has
pub record SameGraph (g : WeightedGraph) (G : StateGraph) : Type 0 where
  pub size_is : length G.virtual ≡ g.size
  pub sides-are : length G.end ≡ sides g
  pub near-is : (s : ℕ) → get_or G.end s 0 ≡ near g s
  pub across-is : (s : ℕ) → get_or G.end (opposite s) 0 ≡ across g s
  pub weight_is : (s : ℕ) → get_or G.weight (edge_of s) 0 ≡ weight g s
  pub virtual_is : (v : ℕ) → get_or G.virtual v 0 ≡ get_or g.virtual v 0

-- ---- the laws of `distance` for the state's `opposite`

module _ (g : WeightedGraph) (ok : WellFormed g) where
  pub opposite-inside : (s : ℕ) → s < sides g → opposite s < sides g
  opposite-inside s h = rw (opposite-same s) (opposite-in g ok s h)

module _ (g : WeightedGraph) (s : ℕ) where
  pub near-of-opposite : near g (opposite s) ≡ across g s
  near-of-opposite = rw (opposite-same s) (near-opposite g s)

  pub across-of-opposite : across g (opposite s) ≡ near g s
  across-of-opposite = rw (opposite-same s) (across-opposite g s)

  pub weight-of-opposite : weight g (opposite s) ≡ weight g s
  weight-of-opposite = rw (opposite-same s) (weight-opposite g s)

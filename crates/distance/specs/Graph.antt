-- A finite weighted undirected graph, parallel edges allowed, and its walks.
use Rattle.std.specs.Prelude.{◌≢◌, ◌≡◌, List, ℕ, ◌+◌, ◌-◌, ◌*◌, ◌/◌, ◌%◌, ◌≤◌, ◌<◌, length, get_or}

-- The vertices are 0 to size - 1. Edge e has the sides 2 e and 2 e + 1.
pub record WeightedGraph : Type 0 where
  pub size : ℕ
  pub ends : List ℕ  -- of each side, its vertex
  pub weights : List ℕ  -- of each edge
  pub virtual : List ℕ  -- of each vertex, above 0 where it is virtual

-- the number of sides
abbrev pub sides : WeightedGraph → ℕ
sides g = length g.ends

-- the other side of the same edge: s + 1 for an even s, s - 1 for an odd s
unfoldable pub other_side : ℕ → ℕ
other_side s = s + 1 - 2 * (s % 2)

-- the vertex of a side
unfoldable pub near : WeightedGraph → ℕ → ℕ
near g s = get_or g.ends s 0

-- the vertex at the other end of its edge
unfoldable pub across : WeightedGraph → ℕ → ℕ
across g s = get_or g.ends (other_side s) 0

-- the weight of its edge
unfoldable pub weight : WeightedGraph → ℕ → ℕ
weight g s = get_or g.weights (s / 2) 0

-- vertex v is virtual
abbrev pub Virtual : WeightedGraph → ℕ → Type 0
Virtual g v = 0 < get_or g.virtual v 0

-- What is asked of a graph (SPECIFICATION 2): at most 1,024 vertices, weights of at most 1,000,000, and two different
-- vertices at the ends of an edge.
pub record WellFormed (g : WeightedGraph) : Type 0 where
  pub paired : length g.ends ≡ 2 * length g.weights
  pub placed : (s : ℕ) → s < sides g → near g s < g.size
  pub apart : (s : ℕ) → s < sides g → near g s ≢ across g s
  pub light : (s : ℕ) → s < sides g → weight g s ≤ 1_000_000
  pub small : g.size ≤ 1_024

-- no edge has weight 0
abbrev pub Positive : WeightedGraph → Type 0
Positive g = (s : ℕ) → s < sides g → 0 < weight g s

-- Walk g a u n: a walk from a to u of length n, which is the sum of the weights of its edges. It is trivial, or a walk and one step more, along
-- side s from the vertex of s to the one across.
pub data Walk (g : WeightedGraph) (a : ℕ) : ℕ → ℕ → Type 0 where
  trivial : Walk g a a 0
  step : {n : ℕ} (s : ℕ) → s < sides g → Walk g a (near g s) n → Walk g a (across g s) (n + weight g s)

-- n is the least length of a walk from a to u
pub record ShortestLength (g : WeightedGraph) (a u n : ℕ) : Type 0 where
  pub walk : Walk g a u n
  pub least : (m : ℕ) → Walk g a u m → n ≤ m

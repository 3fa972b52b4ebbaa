-- The graph of an opening.
use Rattle.std.specs.Prelude.{ℕ, ◌<◌, ◌≡◌, true, List, [], ◌∷◌, map, ltb}
use Rattle.graph.specs.Basic.{all, member, below}
use Rattle.graph.specs.Open.{Edge, ends_of, flag_in}
use Rattle.distance.specs.Graph.{WeightedGraph}

-- V vertices, the edges in order with their weights, and the virtual vertices, as distances are defined on them
unfoldable pub opened_graph : ℕ → List Edge → List ℕ → WeightedGraph
opened_graph v edges virtuals = record {
  size = v;
  ends = ends_of edges;
  weights = map (λ (e : Edge). e.weight) edges;
  virtual = map (flag_in virtuals) (below v);
}

-- the edges in order, with other weights
unfoldable pub with_weights : List Edge → List ℕ → List Edge
with_weights [] ws = []
with_weights (e ∷ es) [] = e ∷ es
with_weights (e ∷ es) (w ∷ ws) = record { left = e.left; right = e.right; weight = w } ∷ with_weights es ws

-- two lists name the same of the v vertices, in whatever order and however often
abbrev pub SameVertices : ℕ → List ℕ → List ℕ → Type 0
SameVertices v l k = (a : ℕ) → a < v → member a l ≡ member a k

-- every weight is above 0
abbrev pub PositiveWeights : List Edge → Type 0
PositiveWeights edges = all (λ (e : Edge). ltb 0 e.weight) edges ≡ true

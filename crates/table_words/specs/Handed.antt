-- What a lab hands over: the words, and the graph and the numbers that they give.
use Rattle.std.specs.Prelude.{ℕ, zero, suc, ◌*◌, List, map, ℤ, pos, negsuc, leb, get_or, take, drop, if◌then◌else◌}
use Rattle.graph.specs.Word.{to_nat}
use Rattle.graph.specs.Opening.{edges_from, virtuals_from}
use Rattle.distance.specs.Graph.{WeightedGraph}
use Rattle.distance.specs.Distance.{unreachable}
use Rattle.opened_graph.specs.OpenedGraph.{opened_graph}

-- ---- a distance

-- the greatest distance: 1,023 weights of 1,000,000
abbrev pub distance_limit : ℕ
distance_limit = 1023000000

-- stands for a word that is no distance; above every distance, `unreachable` too
abbrev pub no_distance : ℕ
no_distance = 2000000000001

-- the distance that a word gives: -1 says that there is no way
unfoldable pub distance_of : ℤ → ℕ
distance_of (pos n) = if leb n distance_limit then n else no_distance
distance_of (negsuc zero) = unreachable
distance_of (negsuc (suc n)) = no_distance

-- the distance to vertex u in a row: the words of one defect, one for each vertex
unfoldable pub distance_in : List ℤ → ℕ → ℕ
distance_in row u = distance_of (get_or row u (negsuc 0))

-- row i of the distances: they stand row behind row, in the order of the defects
abbrev pub row_of : ℕ → List ℤ → ℕ → List ℤ
row_of v distances i = take v (drop (i * v) distances)

-- ---- all of it

-- a graph, its defects, their dual variables, the distance from defect i to vertex u, and the growth of each side
pub record Handed : Type 0 where
  pub graph : WeightedGraph
  pub defects : List ℕ
  pub duals : List ℕ
  pub distance : ℕ → ℕ → ℕ
  pub growths : List ℕ

-- V vertices; the words of edges, virtual vertices, defects, dual variables, growths and distances
unfoldable pub handed : ℕ → (edges virtuals defects duals growths distances : List ℤ) → Handed
handed v edges virtuals defects duals growths distances = record {
  graph = opened_graph v (edges_from edges) (virtuals_from virtuals);
  defects = map to_nat defects;
  duals = map to_nat duals;
  distance = λ i u. distance_in (row_of v distances i) u;
  growths = map to_nat growths;
}

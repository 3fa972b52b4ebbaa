-- What refuses a table from another decoder.
use Rattle.std.specs.Prelude.{ℕ, ◌*◌, Bool, ◌&&◌, not, List, map, ℤ, leb, ltb, eqb, length, if◌then◌else◌}
use Rattle.graph.specs.Basic.{all, distinct}
use Rattle.graph.specs.Word.{to_nat}
use Rattle.graph.specs.Open.{dual_limit, growth_limit, sizes_ok, edge_ok}
use Rattle.graph.specs.Opening.{edges_in, edges_from, virtuals_from}
use Rattle.distance.specs.Distance.{unreachable}
use Rattle.table_words.specs.Handed.{distance_of}

-- V, E and the number of edges are in range
unfoldable pub sizes_right : ℕ → ℕ → List ℤ → Bool
sizes_right v e edges = sizes_ok v e 1 0 && eqb (edges_in edges) e

-- a dual variable for each defect, two growths for each edge, V distances for each defect
unfoldable pub lengths_right : ℕ → ℕ → (defects duals growths distances : List ℤ) → Bool
lengths_right v e defects duals growths distances =
    eqb (length duals) (length defects) && (eqb (length growths) (2 * e) && eqb (length distances) (length defects * v))

-- the graph is in range
unfoldable pub graph_in_range : ℕ → (edges virtuals : List ℤ) → Bool
graph_in_range v edges virtuals = all (edge_ok v) (edges_from edges) && all (λ x. ltb x v) (virtuals_from virtuals)

-- every defect is a vertex, and none is listed twice
unfoldable pub defects_in_range : ℕ → List ℤ → Bool
defects_in_range v defects = all (λ x. ltb x v) (map to_nat defects) && distinct (map to_nat defects)

-- every word gives a distance
unfoldable pub distances_in_range : List ℤ → Bool
distances_in_range distances = all (λ x. leb (distance_of x) unreachable) distances

-- every number is in range
unfoldable pub numbers_right : ℕ → (edges virtuals defects duals growths distances : List ℤ) → Bool
numbers_right v edges virtuals defects duals growths distances =
    graph_in_range v edges virtuals
    && (defects_in_range v defects
    && (all (λ x. leb x dual_limit) (map to_nat duals)
    && (all (λ x. leb x growth_limit) (map to_nat growths)
    && distances_in_range distances)))

-- 0, or the number of the refusal
unfoldable pub table_refusal : (v e : ℕ) (edges virtuals defects duals growths distances : List ℤ) → ℕ
table_refusal v e edges virtuals defects duals growths distances =
    if not (sizes_right v e edges) then 4
    else if not (lengths_right v e defects duals growths distances) then 1
    else if not (numbers_right v edges virtuals defects duals growths distances) then 4
    else 0

-- ---- row by row

-- all that is handed over but the rows is in range
unfoldable pub head_in_range : ℕ → (edges virtuals defects duals growths : List ℤ) → Bool
head_in_range v edges virtuals defects duals growths =
    graph_in_range v edges virtuals
    && (defects_in_range v defects
    && (all (λ x. leb x dual_limit) (map to_nat duals) && all (λ x. leb x growth_limit) (map to_nat growths)))

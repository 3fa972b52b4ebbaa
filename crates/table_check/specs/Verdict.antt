-- The verdict on a table from another decoder: when the answer is yes.
use Rattle.std.specs.Prelude.{ℕ, ◌+◌, ◌≤◌, ◌<◌, ◌≡◌, ◌≢◌, Bool, ◌&&◌, ◌||◌, List, [], ◌∷◌, map, ℤ, leb, ltb, eqb, length, get_or, if◌then◌else◌}
use Rattle.graph.specs.Basic.{below, all_below, same}
use Rattle.distance.specs.Graph.{WeightedGraph, Positive, sides, weight}
use Rattle.distance.specs.Distance.{unreachable, dist}
use Rattle.distance.specs.Nearest.{VirtualInReach, nearest_virtual}
use Rattle.distance.specs.Table.{table_from_distances}
use Rattle.table_words.specs.Handed.{Handed, handed}
use Rattle.table_refuse.specs.Refuse.{table_refusal}
use Rattle.table_check.specs.Outcome.{Verdict, Yes, No, Refused}

-- ---- the numbers of what was handed over

-- the vertex of defect i
abbrev pub given_defect_at : Handed → ℕ → ℕ
given_defect_at h i = get_or h.defects i 0

-- its dual variable
abbrev pub given_dual_at : Handed → ℕ → ℕ
given_dual_at h i = get_or h.duals i 0

-- how many defects there are
abbrev pub defect_count : Handed → ℕ
defect_count h = length h.defects

-- the dual variable of the defect at vertex a, 0 where there is none
unfoldable pub given_dual_of : List ℕ → List ℕ → ℕ → ℕ
given_dual_of [] ys a = 0
given_dual_of (x ∷ xs) [] a = 0
given_dual_of (x ∷ xs) (y ∷ ys) a = if eqb a x then y else given_dual_of xs ys a

-- the dual variable of each vertex
unfoldable pub duals_by_vertex : Handed → List ℕ
duals_by_vertex h = map (given_dual_of h.defects h.duals) (below h.graph.size)

-- ---- right

-- no edge has weight 0
unfoldable pub positive : WeightedGraph → Bool
positive g = all_below (λ s. ltb 0 (weight g s)) (sides g)

-- every vertex reaches a virtual one
unfoldable pub in_reach : WeightedGraph → Bool
in_reach g = all_below (λ a. ltb (nearest_virtual g a) unreachable) g.size

-- the distances are the shortest
unfoldable pub shortest : Handed → Bool
shortest h = all_below (λ i. all_below (λ u. eqb (h.distance i u) (dist h.graph (given_defect_at h i) u)) h.graph.size) (defect_count h)

-- The dual variables of two defects sum to at most their distance. `unreachable` is above every such sum, so that a pair without a way is free.
unfoldable pub pairs_feasible : Handed → Bool
pairs_feasible h =
    all_below
    (λ i. all_below
    (λ j. eqb i j || leb (given_dual_at h i + given_dual_at h j) (dist h.graph (given_defect_at h i) (given_defect_at h j)))
    (defect_count h))
    (defect_count h)

-- no dual variable is above the distance to the nearest virtual vertex
unfoldable pub virtuals_feasible : Handed → Bool
virtuals_feasible h = all_below (λ i. leb (given_dual_at h i) (nearest_virtual h.graph (given_defect_at h i))) (defect_count h)

-- the table is the one worked out from distances and dual variables
unfoldable pub table_afresh : Handed → Bool
table_afresh h = same h.growths (table_from_distances h.graph (duals_by_vertex h))

-- all of this holds
unfoldable pub right : Handed → Bool
right h = positive h.graph && (in_reach h.graph && (shortest h && (pairs_feasible h && (virtuals_feasible h && table_afresh h))))

-- The same in words of sets and walks; `yes-exactly` says that it is.
pub record Right (h : Handed) : Type 0 where
  pub positive-weights : Positive h.graph
  pub virtual-in-reach : VirtualInReach h.graph
  pub shortest-distances : (i u : ℕ) → i < defect_count h → u < h.graph.size → h.distance i u ≡ dist h.graph (given_defect_at h i) u
  pub pairs : (i j : ℕ) → i < defect_count h → j < defect_count h → i ≢ j → dist h.graph (given_defect_at h i) (given_defect_at h j) < unreachable
      → given_dual_at h i + given_dual_at h j ≤ dist h.graph (given_defect_at h i) (given_defect_at h j)
  pub virtuals : (i : ℕ) → i < defect_count h → given_dual_at h i ≤ nearest_virtual h.graph (given_defect_at h i)
  pub table : h.growths ≡ table_from_distances h.graph (duals_by_vertex h)

-- ---- the verdict

-- where k is 0 or the refusal
unfoldable pub verdict_by : ℕ → Bool → Verdict
verdict_by k t = if eqb k 0 then (if t then Yes else No) else Refused k

-- what check_table answers
unfoldable pub table_verdict : (v e : ℕ) (edges virtuals defects duals growths distances : List ℤ) → Verdict
table_verdict v e edges virtuals defects duals growths distances =
    verdict_by (table_refusal v e edges virtuals defects duals growths distances) (right (handed v edges virtuals defects duals growths distances))

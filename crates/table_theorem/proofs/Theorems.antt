-- Demand 3 (SPECIFICATION 11.3), about states. A run is an accepted opening and any list of calls in which no blossom
-- is accepted (Runs); its history has each node's dual variable (History); distances and the table from them are those
-- of crate `distance`.
use Rattle.std.specs.Prelude.{ℕ, suc, ◌<◌, ◌≡◌, ◌↔◌, true, List, pos}
use Rattle.graph.specs.Open.{Edge}
use Rattle.calls.specs.Calls.{Round, growth_table}
use Rattle.calls.specs.Round.{round}
use Rattle.reachable.specs.Reachable.{after}
use Rattle.table_theorem.specs.Answers.{is_done}
use Rattle.distance.specs.Table.{table_from_distances}
use Rattle.distance.specs.Feasible.{Feasible}
use Rattle.distance.specs.Nearest.{ReachesVirtual}
use Rattle.opened_graph.specs.OpenedGraph.{opened_graph, SameVertices, PositiveWeights}
use Rattle.table_theorem.specs.History.{dual_at, duals_of, recorded, history_from, growths_of}
use Rattle.table_theorem.specs.Runs.{Run, end, history, SameNodes}
use Rattle.table_theorem.proofs.laws.Runs.{end-matches, end-round, end-table, end-feasible, tables-tell-duals}

-- The growth table is the one worked out from distances and the history's dual variables.
pub table-is-from-distances : (v : ℕ) (edges : List Edge) (virtuals : List ℕ) → PositiveWeights edges
    → (r : Run v edges virtuals) → growth_table (end r) ≡ table_from_distances (opened_graph v edges virtuals) (duals_of v (history r))
table-is-from-distances v edges virtuals positive r = end-table r positive

-- The nodes are those of the history: as many, and each with its vertex, grow state and dual variable.
pub nodes-are-recorded : (v : ℕ) (edges : List Edge) (virtuals : List ℕ) (r : Run v edges virtuals) → SameNodes (end r) (history r)
nodes-are-recorded v edges virtuals r = (end-matches r).nodes

-- The dual variables are feasible: two defects are at least as far apart as theirs sum to, and every virtual vertex is at least as far as one.
pub duals-are-feasible : (v : ℕ) (edges : List Edge) (virtuals : List ℕ) → PositiveWeights edges
    → (r : Run v edges virtuals) → Feasible (opened_graph v edges virtuals) (duals_of v (history r))
duals-are-feasible v edges virtuals positive r = end-feasible r positive

-- An accepted round is its growths, one by one: the calls of growth of each Shrink node of the renewed list, then of each Grow node, lead to the
-- same state, and the history after them is the one that the round makes.
pub a-round-is-its-growths : (v : ℕ) (edges : List Edge) (virtuals : List ℕ) (r : Run v edges virtuals) (l : ℕ)
    → is_done (round (end r) (pos (suc l))).answer ≡ true
    → (after (end r) (growths_of (end r) l) ≡ (round (end r) (pos (suc l))).state)
    × (history_from (end r) (history r) (growths_of (end r) l) ≡ recorded (end r) (history r) (Round (pos (suc l))))
a-round-is-its-growths v edges virtuals r l done = end-round r l done

-- Two runs on one graph (the same V, edges in order, weights and virtual vertices; any two N and L) where each vertex reaches a virtual one:
-- their tables are equal exactly when every vertex has the same dual variable.
pub tables-equal-exactly-when-duals-are : (v : ℕ) (edges : List Edge) (virtuals others : List ℕ) → SameVertices v virtuals others → PositiveWeights edges
    → ((a : ℕ) → a < v → ReachesVirtual (opened_graph v edges virtuals) a)
    → (r : Run v edges virtuals) (s : Run v edges others)
    → (growth_table (end r) ≡ growth_table (end s)) ↔ ((a : ℕ) → a < v → dual_at (history r) a ≡ dual_at (history s) a)
tables-equal-exactly-when-duals-are v edges virtuals others same positive reach r s = tables-tell-duals same positive r s reach

-- Every run's own table gets yes. The proof is in laws/.
use Rattle.std.specs.Prelude.{ℕ, ◌<◌, ◌≡◌, List, ℤ}
use Rattle.graph.specs.Open.{Edge}
use Rattle.distance.specs.Nearest.{ReachesVirtual}
use Rattle.opened_graph.specs.OpenedGraph.{opened_graph, PositiveWeights}
use Rattle.table_theorem.specs.Runs.{Run}
use Rattle.table_check.specs.Outcome.{Yes}
use Rattle.table_check.specs.Verdict.{table_verdict}
use Rattle.own_tables.specs.Own.{Own}
use Rattle.own_tables.proofs.laws.Own.{own-yes}

-- For every run of demand 3 (an accepted opening with positive weights, in which every vertex reaches a virtual one, and any list of calls
-- without an accepted blossom): its table, its dual variables and its distances get yes.
pub own-tables-pass : (v : ℕ) (edges : List Edge) (virtuals : List ℕ) → PositiveWeights edges
    → ((a : ℕ) → a < v → ReachesVirtual (opened_graph v edges virtuals) a)
    → (r : Run v edges virtuals) (edges' virtuals' defects' duals' growths' distances' : List ℤ) → Own r edges' virtuals' defects' duals' growths' distances'
    → table_verdict v r.edge_number edges' virtuals' defects' duals' growths' distances' ≡ Yes
own-tables-pass v edges virtuals positive reach r edges' virtuals' defects' duals' growths' distances' own =
    own-yes positive reach r edges' virtuals' defects' duals' growths' distances' own

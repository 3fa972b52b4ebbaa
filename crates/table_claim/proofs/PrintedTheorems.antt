-- What a run prints, by the graph and the calls of its records (Input); for a table record, by distances and the book
-- of the calls before it (Tables). The proofs are in laws/. An input is any list of bytes: what is not a record, or
-- stands out of order, ends the run.
use Rattle.std.specs.Prelude.{ℕ, ◌+◌, ◌*◌, ◌≤◌, ◌<◌, ◌≡◌, refl, ◌⊎◌, ◌↔◌, true, false, List, [], ◌++◌, map, length, take}
use Rattle.std.proofs.Math.Path.{ap}
use Rattle.graph.specs.Open.{Edge}
use Rattle.calls.specs.Calls.{Call, respond}
use Rattle.reachable.specs.Reachable.{after}
use Rattle.records.specs.Record.{Record, ask}
use Rattle.records.specs.Lines.{lines_for, edge_lines, joined_lines}
use Rattle.records.specs.Run.{LinesCalled, fresh, StepResult, call_step, lines_in}
use Rattle.distance.specs.Table.{table_from_distances}
use Rattle.distance.specs.Nearest.{ReachesVirtual}
use Rattle.opened_graph.specs.OpenedGraph.{opened_graph, PositiveWeights}
use Rattle.table_theorem.specs.History.{dual_at, duals_of}
use Rattle.table_claim.specs.Input.{records_in, graph_in, opened_from, opens, stage_from, stands_behind, lines_by, In, number, earlier, printed, later, Refuses}
use Rattle.table_claim.specs.Reading.{behind_space, growths_in, text_lines}
use Rattle.table_claim.specs.Tables.{TableIn, OnGraph, history_behind, PlainAfter, table_lines, graph_at, calls_at, history_at, OpenAt, fit_count, FitsIn, bytes_of}
use Rattle.table_claim.proofs.laws.Input.{lines-by-records, lines-around, stage_is, call-is-told, call-is-refused}
use Rattle.table_claim.proofs.laws.Tables.{told-from-distances, printed-from-distances, growths-printed, printed-growths-tell, printed-lines-tell, lines-written, bytes-written, written-to, bytes-from-distances, whole-lines}

-- ---- every run, blossoms and weights of 0 among it

-- The lines of an input are those of its records, one after the other.
pub lines-are-of-records : (b : List ℕ) → lines_in b ≡ lines_by 1 fresh (records_in b)
lines-are-of-records = lines-by-records

-- Behind any records the run stands where their graph and their calls say: it is the opened state, followed by exactly these calls, until a record ends it.
pub run-stands-behind-its-calls : (rs : List Record) → stage_from 1 fresh rs ≡ stands_behind rs
run-stands-behind-its-calls = stage_is 1

-- The lines of a record stand behind those of the records before it and in front of those of the records behind it.
pub lines-stand-in-order : {b : List ℕ} {x : Record} (p : In b x) → lines_in b ≡ earlier p ++ (printed p ++ later p)
lines-stand-in-order = lines-around

module _ {b : List ℕ} {a : Call} (p : In b (ask a)) where
  -- A call on an open graph is told what its definition answers, on the opened state followed by the calls before it.
  pub call-is-printed : opens p.before ≡ true → printed p ≡ lines_for (number p) (respond (after (opened_from (graph_at p)) (calls_at p)) a).outcome
  unfolding printed call_step
  call-is-printed o = ap (λ (x : StepResult). x.lines) (call-is-told (number p) p.before a o)

  -- Any other has no line, or the one line of a refusal.
  pub call-is-refused-otherwise : opens p.before ≡ false → (printed p ≡ []) ⊎ Refuses (number p) (printed p)
  unfolding printed
  call-is-refused-otherwise = call-is-refused (number p) p.before a

-- ---- a table record

-- Its lines are those of the table worked out from distances, on the graph of the records before it, with the dual variables of their calls' book.
pub printed-table-is-from-distances : {b : List ℕ} (t : TableIn b) → OpenAt t → PositiveWeights (graph_at t).edges
    → printed t
    ≡ edge_lines (number t) 0
    (table_from_distances (opened_graph (graph_at t).v (graph_at t).edges (graph_at t).virtuals)
    (duals_of (graph_at t).v (history_at t)))
printed-table-is-from-distances t o positive =
    printed-from-distances t (record { vertices-are = refl; edges_are = refl; virtuals-are = λ a k. refl }) o positive

-- The same behind any records, whether or not they stand in an input, without a change of weights.
pub told-table-is-from-distances : (rs : List Record) → PlainAfter rs → PositiveWeights (graph_in rs).edges
    → table_lines rs
    ≡ edge_lines (length rs + 1) 0
    (table_from_distances (opened_graph (graph_in rs).v (graph_in rs).edges (graph_in rs).virtuals)
    (duals_of (graph_in rs).v (history_behind rs)))
told-table-is-from-distances rs o positive = told-from-distances rs (record { vertices-are = refl; edges_are = refl; virtuals-are = λ a k. refl }) o positive

-- The same where the graph is given: V, the edges in order with their weights, and the virtual vertices.
module _ {v : ℕ} {edges : List Edge} {virtuals : List ℕ} (positive : PositiveWeights edges) where
  pub printed-on-graph : {b : List ℕ} (t : TableIn b) → OnGraph v edges virtuals (graph_at t) → OpenAt t
      → printed t ≡ edge_lines (number t) 0 (table_from_distances (opened_graph v edges virtuals) (duals_of v (history_at t)))
  printed-on-graph t g o = printed-from-distances t g o positive

  -- So that table is what is read back from the bytes of the lines.
  pub printed-growths-are-from-distances : {b : List ℕ} (t : TableIn b) → OnGraph v edges virtuals (graph_at t) → OpenAt t
      → growths_in (printed t) ≡ table_from_distances (opened_graph v edges virtuals) (duals_of v (history_at t))
  printed-growths-are-from-distances t g o = growths-printed t g o positive

  -- ---- two table records, of one input or of two, on one graph where each vertex reaches a virtual one

  module _ (reach : (a : ℕ) → a < v → ReachesVirtual (opened_graph v edges virtuals) a) {b c : List ℕ} (t : TableIn b) (u : TableIn c)
      (on-t : OnGraph v edges virtuals (graph_at t)) (on-u : OnGraph v edges virtuals (graph_at u)) (open-t : OpenAt t) (open-u : OpenAt u) where
    -- the growths in their lines are equal exactly when every vertex has the same dual variable in both books;
    pub printed-tables-equal-exactly-when-duals-are : (growths_in (printed t) ≡ growths_in (printed u)) ↔
        ((a : ℕ) → a < v → dual_at (history_at t) a ≡ dual_at (history_at u) a)
    printed-tables-equal-exactly-when-duals-are = printed-growths-tell positive reach t u on-t on-u open-t open-u

    -- so are the lines, without the record's number in front.
    pub printed-lines-equal-exactly-when-duals-are : (map behind_space (printed t) ≡ map behind_space (printed u)) ↔
        ((a : ℕ) → a < v → dual_at (history_at t) a ≡ dual_at (history_at u) a)
    printed-lines-equal-exactly-when-duals-are = printed-lines-tell positive reach t u on-t on-u open-t open-u

-- ---- the exported call

module _ {b lines lines' : List ℕ} {k : ℕ} (called : LinesCalled b lines lines' k) where
  -- What it writes are the first lines of the input, as many as fit.
  pub first-lines-are-written : take k lines' ≡ joined_lines (take (fit_count (length lines) (lines_in b)) (lines_in b))
  first-lines-are-written = lines-written called

  module _ (t : TableIn b) (m : ℕ) (fits : FitsIn t m lines) where
    -- Of a table, the first m lines, if they fit, stand behind the lines before it,
    pub table-lines-are-written : (bytes_of t m lines' ≡ joined_lines (take m (printed t))) × (length (joined_lines (earlier t ++ take m (printed t))) ≤ k)
    table-lines-are-written = (bytes-written called t m fits, written-to called t m fits)

    -- and are those of the first m edges in the table from distances.
    pub written-table-is-from-distances : {v : ℕ} {edges : List Edge} {virtuals : List ℕ} → PositiveWeights edges
        → OnGraph v edges virtuals (graph_at t) → OpenAt t
        → bytes_of t m lines' ≡ joined_lines (edge_lines (number t) 0 (take (2 * m) (table_from_distances (opened_graph v edges virtuals) (duals_of v (history_at t)))))
    written-table-is-from-distances positive g o = bytes-from-distances called t m fits g o positive

-- The whole table, a line for each edge: where it fits it is cut out of the written bytes again.
pub written-table-is-read-back : {v : ℕ} {edges : List Edge} {virtuals : List ℕ} → PositiveWeights edges
    → {b lines lines' : List ℕ} {k : ℕ} → LinesCalled b lines lines' k
    → (t : TableIn b) → OnGraph v edges virtuals (graph_at t) → OpenAt t → FitsIn t (length edges) lines
    → text_lines (bytes_of t (length edges) lines') ≡ printed t
written-table-is-read-back positive called t g o fits = whole-lines positive t g o called fits

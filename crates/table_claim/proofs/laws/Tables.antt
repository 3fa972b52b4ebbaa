-- The lines of a table record, by the graph and the calls of the records before it.
use Rattle.std.specs.Prelude.{ℕ, zero, suc, ◌+◌, ◌*◌, ◌≤◌, ◌<◌, ◌≡◌, refl, ◌↔◌, true, false, pos, eqb, take, drop}
use Rattle.std.proofs.Common.{arith, sym, ◌∙◌, take-append-drop, take_all, eqb-true}
use Rattle.std.proofs.Math.Path.{ap}
use mathlib.Core.List.{List, [], ◌∷◌, ◌++◌, map, append_assoc}
use Rattle.std.proofs.Math.ListN.{length}
use Rattle.graph.specs.State.{State}
use Rattle.graph.specs.Open.{Edge, opened, open_refusal}
use Rattle.graph.specs.laws.State.{and_right}
use Rattle.graph.specs.laws.Members.{by-test, clash}
use Rattle.graph.specs.laws.Shape.{length-ends}
use Rattle.calls.specs.Calls.{ReadTable, respond, growth_table}
use Rattle.reachable.specs.Reachable.{after}
use Rattle.records.specs.Record.{Record, sizes, an_edge, a_virtual, ask, ill_formed}
use Rattle.records.specs.Lines.{lines_for, edge_lines, joined_lines, fitting, over}
use Rattle.records.specs.Run.{LinesCalled, Gathered, StepResult, call_step, too_large, run_refusal, lines_in, fitted_lines, filled}
use Rattle.distance.specs.Graph.{WellFormed}
use Rattle.distance.specs.Table.{table_from_distances}
use Rattle.distance.specs.Feasible.{Feasible}
use Rattle.distance.specs.Nearest.{ReachesVirtual}
use Rattle.distance.proofs.laws.Table.{length-table_from_distances}
use Rattle.opened_graph.specs.OpenedGraph.{opened_graph, PositiveWeights}
use Rattle.opened_graph.specs.laws.Opening.{one-graph, well-formed}
use Rattle.table_theorem.specs.History.{History, history_after, dual_at, natural, duals_of}
use Rattle.table_theorem.specs.Runs.{Run, end, history}
use Rattle.table_theorem.proofs.Theorems.{table-is-from-distances, duals-are-feasible, tables-equal-exactly-when-duals-are}
use Rattle.table_theorem.proofs.laws.Runs.{end-natural}
use Rattle.table_claim.specs.Input.{calls_in, gathered_with, graph_in, opened_from, in_order, opens, earlier, printed, later}
use Rattle.table_claim.specs.Reading.{behind_space, growths_in, text_lines}
use Rattle.table_claim.specs.Tables.{TableIn, OnGraph, history_behind, PlainAfter, table_lines, OpenAt, graph_at, history_at, fit_count, FitsIn, bytes_of}
use Rattle.table_theorem.proofs.laws.Kept.{as-opened}
use Rattle.table_claim.proofs.laws.Plain.{plain_at}
use Rattle.table_claim.proofs.laws.Input.{lines-around, call-is-told}
use Rattle.table_claim.proofs.laws.Reading.{growths-read, lines-tell-growths, table-lines}
use Rattle.table_claim.proofs.laws.Fitting.{stands-behind, written-so-far, fitted-front}

-- ---- the run of the definitions

-- an opening that the run does not refuse is accepted
refusal-none : (g : Gathered) → eqb (run_refusal g) 0 ≡ true → open_refusal g.v g.e g.n g.l g.edges g.virtuals true ≡ 0
unfolding run_refusal
refusal-none g h =
    let z : run_refusal g ≡ 0 = eqb-true (run_refusal g) 0 h in
    by-test (too_large g)
    (λ e. let q : ◌≡◌ {A = ℕ} 4 0 = rw e at z in absurd (omega arith))
    (λ e. rw e at z)

opening-accepted : (rs : List Record) → opens rs ≡ true
    → open_refusal (graph_in rs).v (graph_in rs).e (graph_in rs).n (graph_in rs).l (graph_in rs).edges
    (graph_in rs).virtuals true
    ≡ 0
unfolding opens graph_in
opening-accepted [] h = clash false h refl
opening-accepted (sizes v e n l ∷ rs) h = refusal-none (gathered_with v e n l rs) (and_right (in_order rs) (eqb (run_refusal (gathered_with v e n l rs)) 0) h)
opening-accepted (an_edge x ∷ rs) h = clash false h refl
opening-accepted (a_virtual x ∷ rs) h = clash false h refl
opening-accepted (ask a ∷ rs) h = clash false h refl
opening-accepted (ill_formed ∷ rs) h = clash false h refl

-- two growths for each edge
table-length : (v : ℕ) (edges : List Edge) (virtuals y : List ℕ) → length (table_from_distances (opened_graph v edges virtuals) y) ≡ 2 * length edges
unfolding opened_graph
table-length v edges virtuals y = length-table_from_distances (opened_graph v edges virtuals) y ∙ length-ends edges

-- ---- a table that is asked for behind any records

module _ {v : ℕ} {edges : List Edge} {virtuals : List ℕ} (rs : List Record) (g : OnGraph v edges virtuals (graph_in rs)) (o : PlainAfter rs) where
  start_is : opened_from (graph_in rs) ≡ opened v (graph_in rs).n (graph_in rs).l edges (graph_in rs).virtuals
  start_is = rw (g.vertices-are, g.edges_are) refl

  -- opening and calls are a run in the sense of crate `table_theorem`
  abbrev as_run : Run v edges (graph_in rs).virtuals
  as_run = record {
    edge_number = (graph_in rs).e;
    node_limit = (graph_in rs).n;
    store_limit = (graph_in rs).l;
    fits = true;
    given = edges;
    opening = rw (g.vertices-are, g.edges_are) at (opening-accepted rs o.is_open);
    calls = calls_in rs;
    without_blossoms = rw start_is at o.blossomless;
    present = as-opened v (graph_in rs).n (graph_in rs).l edges (graph_in rs).virtuals (calls_in rs) o.plain;
  }

  -- its history is the book
  book-is : history as_run ≡ history_behind rs
  book-is = ap (λ (c : State). history_after c (calls_in rs)) (sym start_is)

  -- the graph is well-formed, and the book's dual variables are natural numbers
  pub history-formed : WellFormed (opened_graph v edges virtuals)
  history-formed =
      rw (one-graph v edges virtuals (graph_in rs).virtuals g.virtuals-are)
      (well-formed v edges (graph_in rs).virtuals as_run.edge_number as_run.node_limit as_run.store_limit true
      as_run.opening)

  pub history-natural : (a : ℕ) → dual_at (history_behind rs) a ≡ pos (natural (dual_at (history_behind rs) a))
  history-natural a = rw book-is at (end-natural as_run a)

  -- the table of its end is printed
  told-end : table_lines rs ≡ edge_lines (length rs + 1) 0 (growth_table (end as_run))
  unfolding table_lines call_step respond lines_for
  told-end =
      ap (λ (x : StepResult). x.lines) (call-is-told (length rs + 1) rs ReadTable o.is_open)
      ∙ ap (λ (c : State). edge_lines (length rs + 1) 0 (growth_table (after c (calls_in rs)))) start_is

  module _ (positive : PositiveWeights edges) where
    -- it is the table from distances
    end-table : growth_table (end as_run) ≡ table_from_distances (opened_graph v edges virtuals) (duals_of v (history_behind rs))
    end-table =
        table-is-from-distances v edges (graph_in rs).virtuals positive as_run
        ∙ rw (one-graph v edges virtuals (graph_in rs).virtuals g.virtuals-are)
        (ap (λ (h : History). table_from_distances (opened_graph v edges (graph_in rs).virtuals) (duals_of v h)) book-is)

    pub history-feasible : Feasible (opened_graph v edges virtuals) (duals_of v (history_behind rs))
    history-feasible =
        rw (one-graph v edges virtuals (graph_in rs).virtuals g.virtuals-are, ← book-is)
        (duals-are-feasible v edges (graph_in rs).virtuals positive as_run)

    pub told-from-distances : table_lines rs ≡ edge_lines (length rs + 1) 0 (table_from_distances (opened_graph v edges virtuals) (duals_of v (history_behind rs)))
    told-from-distances = told-end ∙ ap (edge_lines (length rs + 1) 0) end-table

    end-length : length (growth_table (end as_run)) ≡ 2 * length edges
    end-length = ap length end-table ∙ table-length v edges virtuals (duals_of v (history_behind rs))

    -- and its growths are read back
    growths-end : growths_in (table_lines rs) ≡ growth_table (end as_run)
    growths-end = ap growths_in told-end ∙ growths-read (length rs + 1) 0 (length edges) (growth_table (end as_run)) end-length

    pub growths-told : growths_in (table_lines rs) ≡ table_from_distances (opened_graph v edges virtuals) (duals_of v (history_behind rs))
    growths-told = growths-end ∙ end-table

-- ---- two tables

module _ {v : ℕ} {edges : List Edge} {virtuals : List ℕ} (positive : PositiveWeights edges)
    (reach : (a : ℕ) → a < v → ReachesVirtual (opened_graph v edges virtuals) a)
    (rs qs : List Record) (g : OnGraph v edges virtuals (graph_in rs)) (h : OnGraph v edges virtuals (graph_in qs)) (o : PlainAfter rs) (p : PlainAfter qs) where
  abbrev Same : Type 0
  Same = (a : ℕ) → a < v → dual_at (history_behind rs) a ≡ dual_at (history_behind qs) a

  one : (a : ℕ) → a < v → ReachesVirtual (opened_graph v edges (graph_in rs).virtuals) a
  one a k = rw (← one-graph v edges virtuals (graph_in rs).virtuals g.virtuals-are) (reach a k)

  ends-tell : (growth_table (end (as_run rs g o)) ≡ growth_table (end (as_run qs h p))) ↔ Same
  ends-tell =
      let tell =
      tables-equal-exactly-when-duals-are v edges (graph_in rs).virtuals (graph_in qs).virtuals
      (λ a k. sym (g.virtuals-are a k) ∙ h.virtuals-are a k) positive one (as_run rs g o) (as_run qs h p) in (
        λ e a k. ap (λ (x : History). dual_at x a) (sym (book-is rs g o)) ∙ tell.0 e a k ∙ ap (λ (x : History). dual_at x a) (book-is qs h p),
        λ f. tell.1 (λ a k. ap (λ (x : History). dual_at x a) (book-is rs g o) ∙ f a k ∙ ap (λ (x : History). dual_at x a) (sym (book-is qs h p))),
      )

  pub told-growths-tell : (growths_in (table_lines rs) ≡ growths_in (table_lines qs)) ↔ Same
  told-growths-tell = (
    λ e. ends-tell.0 (sym (growths-end rs g o positive) ∙ e ∙ growths-end qs h p positive),
    λ f. growths-end rs g o positive ∙ ends-tell.1 f ∙ sym (growths-end qs h p positive),
  )

  pub told-lines-tell : (map behind_space (table_lines rs) ≡ map behind_space (table_lines qs)) ↔ Same
  told-lines-tell =
      let i = told-end rs g o in
      let j = told-end qs h p in
      let tell =
      lines-tell-growths (length rs + 1) (length qs + 1) (length edges) (length edges)
      (growth_table (end (as_run rs g o))) (growth_table (end (as_run qs h p))) (end-length rs g o positive)
      (end-length qs h p positive) in (
        λ e. ends-tell.0 (tell.0 (ap (map behind_space) (sym i) ∙ e ∙ ap (map behind_space) j)),
        λ f. ap (map behind_space) i ∙ tell.1 (ends-tell.1 f) ∙ ap (map behind_space) (sym j),
      )

-- ---- table records of inputs

module _ {v : ℕ} {edges : List Edge} {virtuals : List ℕ} {b : List ℕ} (t : TableIn b)
    (g : OnGraph v edges virtuals (graph_at t)) (o : OpenAt t) (positive : PositiveWeights edges) where
  pub printed-from-distances : printed t ≡ edge_lines (length t.before + 1) 0 (table_from_distances (opened_graph v edges virtuals) (duals_of v (history_at t)))
  unfolding printed table_lines
  printed-from-distances = told-from-distances t.before g (plain_at t o) positive

  pub growths-printed : growths_in (printed t) ≡ table_from_distances (opened_graph v edges virtuals) (duals_of v (history_at t))
  unfolding printed table_lines
  growths-printed = growths-told t.before g (plain_at t o) positive

module _ {v : ℕ} {edges : List Edge} {virtuals : List ℕ} (positive : PositiveWeights edges)
    (reach : (a : ℕ) → a < v → ReachesVirtual (opened_graph v edges virtuals) a)
    {b c : List ℕ} (t : TableIn b) (u : TableIn c) (g : OnGraph v edges virtuals (graph_at t))
    (h : OnGraph v edges virtuals (graph_at u)) (o : OpenAt t) (p : OpenAt u) where
  pub printed-growths-tell : (growths_in (printed t) ≡ growths_in (printed u)) ↔ ((a : ℕ) → a < v → dual_at (history_at t) a ≡ dual_at (history_at u) a)
  unfolding printed table_lines
  printed-growths-tell = told-growths-tell positive reach t.before u.before g h (plain_at t o) (plain_at u p)

  pub printed-lines-tell : (map behind_space (printed t) ≡ map behind_space (printed u)) ↔ ((a : ℕ) → a < v → dual_at (history_at t) a ≡ dual_at (history_at u) a)
  unfolding printed table_lines
  printed-lines-tell = told-lines-tell positive reach t.before u.before g h (plain_at t o) (plain_at u p)

-- ---- written bytes

-- the first m lines are those of the first m edges
take-lines : (k e m : ℕ) (gs : List ℕ) → take m (edge_lines k e gs) ≡ edge_lines k e (take (2 * m) gs)
unfolding edge_lines
take-lines k e zero gs = refl
take-lines k e (suc m) [] = let z : 2 * suc m ≡ suc (suc (2 * m)) = omega arith in rw z refl
take-lines k e (suc m) (l ∷ []) = let z : 2 * suc m ≡ suc (suc (2 * m)) = omega arith in rw z refl
take-lines k e (suc m) (l ∷ r ∷ gs) = let z : 2 * suc m ≡ suc (suc (2 * m)) = omega arith in rw (z, take-lines k (e + 1) m gs) refl

pub lines-written : {b lines lines' : List ℕ} {k : ℕ} → LinesCalled b lines lines' k
    → take k lines' ≡ joined_lines (take (fit_count (length lines) (lines_in b)) (lines_in b))
unfolding filled fitted_lines
lines-written {b} {lines} p = rw (p.bytes, p.count) (fitted-front (lines_in b) lines)

module _ {b lines lines' : List ℕ} {k : ℕ} (called : LinesCalled b lines lines' k) (t : TableIn b) (m : ℕ) (fit : FitsIn t m lines) where
  around : lines_in b ≡ earlier t ++ (take m (printed t) ++ (drop m (printed t) ++ later t))
  around =
      lines-around t
      ∙ ap (λ (x : List (List ℕ)). earlier t ++ x)
      (ap (λ (x : List (List ℕ)). x ++ later t) (sym (take-append-drop m (printed t)))
      ∙ append_assoc (take m (printed t)) (drop m (printed t)) (later t))

  all-bytes : lines' ≡ over (fitting (length lines) (earlier t ++ (take m (printed t) ++ (drop m (printed t) ++ later t)))) lines
  unfolding filled fitted_lines
  all-bytes = called.bytes ∙ ap (λ (x : List (List ℕ)). over (fitting (length lines) x) lines) around

  pub bytes-written : bytes_of t m lines' ≡ joined_lines (take m (printed t))
  bytes-written =
      ap (λ (x : List ℕ). take (length (joined_lines (take m (printed t)))) (drop (length (joined_lines (earlier t))) x)) all-bytes
      ∙ stands-behind (earlier t) (take m (printed t)) (drop m (printed t) ++ later t) lines fit

  pub written-to : length (joined_lines (earlier t ++ take m (printed t))) ≤ k
  unfolding fitted_lines
  written-to =
      let e : k
      ≡ length (fitting (length lines) (earlier t ++ (take m (printed t) ++ (drop m (printed t) ++ later t)))) =
      called.count ∙ ap (λ (x : List (List ℕ)). length (fitting (length lines) x)) around in
      rw e (written-so-far (earlier t) (take m (printed t)) (drop m (printed t) ++ later t) lines fit)

  module _ {v : ℕ} {edges : List Edge} {virtuals : List ℕ} (g : OnGraph v edges virtuals (graph_at t)) (o : OpenAt t) (positive : PositiveWeights edges) where
    front : take m (printed t)
        ≡ edge_lines (length t.before + 1) 0
        (take (2 * m) (table_from_distances (opened_graph v edges virtuals) (duals_of v (history_at t))))
    front =
        ap (take m) (printed-from-distances t g o positive)
        ∙ take-lines (length t.before + 1) 0 m
        (table_from_distances (opened_graph v edges virtuals) (duals_of v (history_at t)))

    pub bytes-from-distances : bytes_of t m lines'
        ≡ joined_lines
        (edge_lines (length t.before + 1) 0
        (take (2 * m) (table_from_distances (opened_graph v edges virtuals) (duals_of v (history_at t)))))
    bytes-from-distances = bytes-written ∙ ap joined_lines front

    pub bytes-lines : text_lines (bytes_of t m lines') ≡ take m (printed t)
    bytes-lines =
        ap text_lines bytes-from-distances
        ∙ table-lines (length t.before + 1) 0
        (take (2 * m) (table_from_distances (opened_graph v edges virtuals) (duals_of v (history_at t))))
        ∙ sym front

-- all lines of the table, one for each edge
module _ {v : ℕ} {edges : List Edge} {virtuals : List ℕ} (positive : PositiveWeights edges) {b : List ℕ} (t : TableIn b)
    (g : OnGraph v edges virtuals (graph_at t)) (o : OpenAt t) where
  printed-whole : take (length edges) (printed t) ≡ printed t
  printed-whole =
      let y = table_from_distances (opened_graph v edges virtuals) (duals_of v (history_at t)) in
      let e = printed-from-distances t g o positive in
      ap (take (length edges)) e
      ∙ take-lines (length t.before + 1) 0 (length edges) y
      ∙ ap (edge_lines (length t.before + 1) 0) (take_all (2 * length edges) y (omega (arith, table-length v edges virtuals (duals_of v (history_at t)))))
      ∙ sym e

  pub whole-lines : {lines lines' : List ℕ} {k : ℕ} → LinesCalled b lines lines' k → FitsIn t (length edges) lines
      → text_lines (bytes_of t (length edges) lines') ≡ printed t
  whole-lines called fit = bytes-lines called t (length edges) fit g o positive ∙ printed-whole

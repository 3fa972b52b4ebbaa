-- The table afresh (demand 3, SPECIFICATION 11.3), as one claim. In words:
--
--   Open a graph and make any calls, with any numbers and any lent memory, refused ones and changes of weights among them, as long as no blossom
--   is accepted. Take the graph with the weights that stand after the calls. If these are all above 0 and every vertex reaches a virtual one, the
--   growth table that is read, or printed, is the one that shortest distances on that graph and the dual variables give by the rule, side by
--   side. And of any two such lists of calls that leave one graph, the tables are equal exactly when every vertex has the same dual variable
--   after both; a vertex without a defect has 0. With which weights a graph was opened, and which stood before the last clear, does not matter.
--
-- What the words stand for:
--   a graph             V vertices, the edges in order with their weights, the virtual vertices: `openedGraph v edges virtuals`. Two lists leave one
--                       graph where these agree, the virtual vertices in any order and however often (`SameVertices`, `OnGraph`). N, L, the
--                       memory and the opened weights may differ.
--   weights that stand  those in the block after the last call: a `LentRun v edges others` is one after which the opened edges, with these
--                       weights, are `edges` (its field `present`). No record changes weights, so of printed lines they are the opened ones.
--   a list of calls     `LentRun` (Lent, Run): an opening that is accepted, then calls of the functions, each known only by what its contract
--                       promises. `HostRun` (Hosted): the same by the functions exported for C. `TableIn` (Tables): the records before a table
--                       record, in an input of any bytes. `Taken` (Program): the bodies of records that the program took.
--                       Where more openings are accepted, the calls since the last one are such a list (EveryRun).
--   no blossom          `WithoutBlossoms`, `BlossomsRefused`, `OpenAt`, `OpenAfter`: blossoms may be asked for; none is accepted.
--   dual variables      those of the history (crate `table_theorem`, History), which is told the calls and the answers and sees neither block nor table:
--                       `dualAt h a`. `carries` says that they are the ones in the block.
--   shortest distances  `dist`, a program; `shortest` and `beyond` say that it is the least length of a walk, and above the dual variable
--                       where there is none.
--   the rule            `tableFromDistances` and `share` (crate `distance`, Table).
use Rattle.std.specs.Prelude.{ℕ, ◌+◌, ◌*◌, ◌≤◌, ◌<◌, ◌≡◌, ◌↔◌, true, List, [], map, ℤ, pos, length, get_or, take}
use Rattle.graph.specs.Open.{Edge}
use Rattle.graph.specs.Layout.{state_of}
use Rattle.answers.specs.Outcome.{Answer}
use Rattle.answers.specs.Outcome.{Done}
use Rattle.dual_module_read.specs.Read.{TableRead}
use Rattle.c_api.specs.Told.{TableTold}
use Rattle.records.specs.Lines.{edge_lines, joined_lines}
use Rattle.records.specs.Run.{LinesCalled}
use Rattle.distance.specs.Graph.{WeightedGraph, near, across, weight, Walk, ShortestLength}
use Rattle.distance.specs.Distance.{dist}
use Rattle.distance.specs.Table.{dual, Covers, share, table_from_distances}
use Rattle.distance.specs.Nearest.{ReachesVirtual}
use Rattle.opened_graph.specs.OpenedGraph.{opened_graph, SameVertices, PositiveWeights}
use Rattle.table_theorem.specs.History.{History, dual_at, duals_of}
use Rattle.table_claim.specs.Run.{or_refused, list_fits, history_by, LentRun, run_sizes, run_start, lent_history, WithoutBlossoms}
use Rattle.table_claim.specs.Hosted.{SaysDone, HostExchange, reported_from, HostRun, host_sizes, host_start, host_history, BlossomsRefused}
use Rattle.table_claim.specs.Carried.{carried}
use Rattle.table_claim.specs.Input.{graph_in, number, printed}
use Rattle.table_claim.specs.Reading.{growths_in, text_lines}
use Rattle.table_claim.specs.Tables.{TableIn, OnGraph, history_behind, OpenAfter, graph_at, history_at, OpenAt, FitsIn, bytes_of}
use Rattle.table_claim.specs.Program.{said, TableWritten}

module _ (v : ℕ) (edges : List Edge) (virtuals : List ℕ) where
  abbrev pub the_graph : WeightedGraph
  the_graph = opened_graph v edges virtuals

  -- the graphs that the claim is about, as calls leave them: every weight is above 0, and each vertex reaches a virtual one
  pub record Suitable : Type 0 where
    pub positive : PositiveWeights edges
    pub reach : (a : ℕ) → a < v → ReachesVirtual the_graph a

  -- the table that shortest distances and the dual variables of a history give
  abbrev pub afresh : History → List ℕ
  afresh h = table_from_distances the_graph (duals_of v h)

  -- what that table is worked out from, and how
  pub record WorkedOut (h : History) : Type 0 where
    -- a distance is the least length of a walk,
    pub shortest : (a u n : ℕ) → a < v → Walk the_graph a u n → ShortestLength the_graph a u (dist the_graph a u)
    -- and above the dual variable where there is none;
    pub beyond : (a u : ℕ) → a < v → ((n : ℕ) → Walk the_graph a u n → ⊥) → dual (duals_of v h) a < dist the_graph a u
    -- the dual variables are those of the history, none below 0;
    pub duals : (a : ℕ) → a < v → pos (dual (duals_of v h) a) ≡ dual_at h a
    -- at most one defect covers a vertex;
    pub one_covers : (a b u : ℕ) → u < v → Covers the_graph (duals_of v h) a u → Covers the_graph (duals_of v h) b u → a ≡ b
    -- there are two growths for each edge, and on a side at a vertex that a defect covers it is what the rule gives it,
    pub length-is : length (afresh h) ≡ 2 * length edges
    pub covered : (a s : ℕ) → s < 2 * length edges → Covers the_graph (duals_of v h) a (near the_graph s)
        → get_or (afresh h) s 0 ≡ share (dual (duals_of v h) a) (dist the_graph a (near the_graph s)) (dist the_graph a (across the_graph s)) (weight the_graph s)
    -- on any other side 0
    pub free : (s : ℕ) → s < 2 * length edges → ((a : ℕ) → a < v → ¬ Covers the_graph (duals_of v h) a (near the_graph s)) → get_or (afresh h) s 0 ≡ 0

  -- ---- calls on lent memory

  -- What holds after a list of calls.
  pub record AfterCalls {others : List ℕ} (r : LentRun v edges others) : Type 0 where
    -- Read table is done, or refused 1 for the length of scratch or list.
    pub answer : (t list list' : List ℤ) (a : Answer) → TableRead r.last t list list' a → a ≡ or_refused (list_fits (run_sizes r) 2 t list) Done
    -- The list that it fills is the table from distances and dual variables,
    pub table : (t list list' : List ℤ) → TableRead r.last t list list' Done → list' ≡ map pos (afresh (lent_history r))
    -- by the rule;
    pub worked-out : WorkedOut (lent_history r)
    -- the dual variables are those that the vertices carry in the block,
    pub carries : (a : ℕ) → pos (carried (state_of r.last) a) ≡ dual_at (lent_history r) a
    -- and those that the host's own protocol tells, answer by answer.
    pub told : history_by (run_sizes r) (run_start r) [] r.exchanges ≡ lent_history r

  -- Two lists of calls, and the lists that read table fills after them: equal exactly when every vertex carries the same dual variable.
  unfoldable pub EqualTables : {others more : List ℕ} (r : LentRun v edges others) (s : LentRun v edges more) → Type 0
  EqualTables r s =
      (t list list' u other other' : List ℤ) → TableRead r.last t list list' Done → TableRead s.last u other other' Done
      → (list' ≡ other') ↔ ((a : ℕ) → a < v → carried (state_of r.last) a ≡ carried (state_of s.last) a)

  -- ---- calls exported for C

  -- The same after a list of exported calls, whose answers are told in numbers.
  pub record AfterExported {others : List ℕ} (r : HostRun v edges others) : Type 0 where
    pub done : (t words words' : List ℤ) (list list' : List ℕ) (k : ℕ) → TableTold r.last t words words' list list' k → 5 ≤ length list
        → list_fits (host_sizes r) 2 t words ≡ true → SaysDone list list'
    pub table : (t words words' : List ℤ) (list list' : List ℕ) (k : ℕ) → TableTold r.last t words words' list list' k → SaysDone list list'
        → words' ≡ map pos (afresh (host_history r))
    pub worked-out : WorkedOut (host_history r)
    pub carries : (a : ℕ) → pos (carried (state_of r.last) a) ≡ dual_at (host_history r) a
    -- and what the host was told at each call is what the definitions answer
    pub told : map (λ (x : HostExchange). x.got) r.exchanges ≡ reported_from (host_sizes r) (host_start r) r.exchanges

  unfoldable pub EqualExported : {others more : List ℕ} (r : HostRun v edges others) (s : HostRun v edges more) → Type 0
  EqualExported r s =
      (t words words' u other other' : List ℤ) (list list' told told' : List ℕ) (j k : ℕ)
      → TableTold r.last t words words' list list' j → TableTold s.last u other other' told told' k → SaysDone list list' → SaysDone told told'
      → (words' ≡ other') ↔ ((a : ℕ) → a < v → carried (state_of r.last) a ≡ carried (state_of s.last) a)

  -- ---- printed lines

  -- a table record on this graph, with the graph open and no blossom accepted before it
  pub record Suits {b : List ℕ} (t : TableIn b) : Type 0 where
    pub on : OnGraph v edges virtuals (graph_at t)
    pub is_open : OpenAt t

  -- the same of records whose bodies the program took
  pub record SuitsTaken (bodies : List (List ℕ)) : Type 0 where
    pub on : OnGraph v edges virtuals (graph_in (said bodies))
    pub is_open : OpenAfter (said bodies)

  -- ---- the claim

  pub record Demand3 : Type 0 where
    -- After any list of calls the table is the one afresh,
    pub after-calls : {others : List ℕ} → SameVertices v virtuals others → (r : LentRun v edges others) → WithoutBlossoms r → AfterCalls r
    -- and after any two the tables are equal exactly when the dual variables are.
    pub equal-tables : {others more : List ℕ} → SameVertices v virtuals others → SameVertices v virtuals more
        → (r : LentRun v edges others) (s : LentRun v edges more) → WithoutBlossoms r → WithoutBlossoms s → EqualTables r s
    -- Both of the exported calls.
    pub after-exported : {others : List ℕ} → SameVertices v virtuals others → (r : HostRun v edges others) → BlossomsRefused r → AfterExported r
    pub equal-exported : {others more : List ℕ} → SameVertices v virtuals others → SameVertices v virtuals more
        → (r : HostRun v edges others) (s : HostRun v edges more) → BlossomsRefused r → BlossomsRefused s → EqualExported r s
    -- Of printed lines: those of a table record are the lines of the table afresh, with the history of the calls before it;
    pub printed-table : {b : List ℕ} (t : TableIn b) → Suits t → (printed t ≡ edge_lines (number t) 0 (afresh (history_at t))) × WorkedOut (history_at t)
    -- that table is read back from them;
    pub printed-growths : {b : List ℕ} (t : TableIn b) → Suits t → growths_in (printed t) ≡ afresh (history_at t)
    -- two printed tables have the same growths exactly when every vertex has the same dual variable.
    pub equal-printed : {b c : List ℕ} (t : TableIn b) (u : TableIn c) → Suits t → Suits u
        → (growths_in (printed t) ≡ growths_in (printed u)) ↔ ((a : ℕ) → a < v → dual_at (history_at t) a ≡ dual_at (history_at u) a)
    -- Of the bytes that the program's step promises for a table record, behind the records taken since its start;
    pub program-table : {bodies : List (List ℕ)} {out : List ℕ} → TableWritten bodies out → SuitsTaken bodies
        → out ≡ joined_lines (edge_lines (length bodies + 1) 0 (afresh (history_behind (said bodies))))
    -- two of them have the same growths exactly when the dual variables are the same.
    pub equal-program : {bodies others : List (List ℕ)} {out told : List ℕ} → TableWritten bodies out
        → TableWritten others told → SuitsTaken bodies → SuitsTaken others
        → (growths_in (text_lines out) ≡ growths_in (text_lines told)) ↔
        ((a : ℕ) → a < v → dual_at (history_behind (said bodies)) a ≡ dual_at (history_behind (said others)) a)
    -- Of the bytes that the exported call `cardrun_lines` leaves, as far as lines fit: the first m lines of a table are those of the first m edges;
    pub written-table : {b lines lines' : List ℕ} {k : ℕ} → LinesCalled b lines lines' k → (t : TableIn b) → Suits t
        → (m : ℕ) → FitsIn t m lines → bytes_of t m lines' ≡ joined_lines (edge_lines (number t) 0 (take (2 * m) (afresh (history_at t))))
    -- two whole tables have the same growths exactly when the dual variables are the same.
    pub equal-written : {b lines lines' c others others' : List ℕ} {j k : ℕ} → LinesCalled b lines lines' j → LinesCalled c others others' k
        → (t : TableIn b) (u : TableIn c) → Suits t → Suits u → FitsIn t (length edges) lines → FitsIn u (length edges) others
        → (growths_in (text_lines (bytes_of t (length edges) lines')) ≡ growths_in (text_lines (bytes_of u (length edges) others')))
        ↔ ((a : ℕ) → a < v → dual_at (history_at t) a ≡ dual_at (history_at u) a)

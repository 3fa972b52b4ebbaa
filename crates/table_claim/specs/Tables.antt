-- What is said of a table record: the graph and the calls before it, their book, and where its lines stand in written bytes.
use Rattle.std.specs.Prelude.{ℕ, suc, ◌+◌, ◌-◌, ◌≤◌, ◌≡◌, true, false, List, [], ◌∷◌, ◌++◌, leb, length, take, drop, if◌then◌else◌}
use Rattle.graph.specs.Basic.{any}
use Rattle.graph.specs.Open.{Edge}
use Rattle.calls.specs.Calls.{Call, ReadTable}
use Rattle.records.specs.Record.{Record, ask}
use Rattle.records.specs.Lines.{joined_lines}
use Rattle.records.specs.Run.{Gathered, fresh, record_step}
use Rattle.opened_graph.specs.OpenedGraph.{SameVertices}
use Rattle.table_theorem.specs.History.{History, history_after, changes_weights, no_blossoms}
use Rattle.table_claim.specs.Input.{calls_in, graph_in, opened_from, opens, stage_from, In, earlier, printed}

-- a record of kind 10, of the input b
abbrev pub TableIn : List ℕ → Type 0
TableIn b = In b (ask ReadTable)

-- what was gathered has these V vertices, these edges in order with their weights, and these virtual vertices, in whatever order and however often; any N and L
pub record OnGraph (v : ℕ) (edges : List Edge) (virtuals : List ℕ) (g : Gathered) : Type 0 where
  pub vertices-are : g.v ≡ v
  pub edges_are : g.edges ≡ edges
  pub virtuals-are : SameVertices v virtuals g.virtuals

-- the book of the calls that records make
abbrev pub history_behind : List Record → History
history_behind rs = history_after (opened_from (graph_in rs)) (calls_in rs)

-- Behind the records the graph is open (the next call opens it where none was made so far), and no blossom was accepted.
pub record OpenAfter (rs : List Record) : Type 0 where
  pub is_open : opens rs ≡ true
  pub blossomless : no_blossoms (opened_from (graph_in rs)) (calls_in rs) ≡ true

-- The same, and no record asks for a change of weights: no record of an input does.
pub record PlainAfter (rs : List Record) : Type 0 where
  pub is_open : opens rs ≡ true
  pub blossomless : no_blossoms (opened_from (graph_in rs)) (calls_in rs) ≡ true
  pub plain : any changes_weights (calls_in rs) ≡ false

-- the lines of a table record behind them
unfoldable pub table_lines : List Record → List (List ℕ)
table_lines rs = (record_step (length rs + 1) (stage_from 1 fresh rs) (ask ReadTable)).lines

-- the same for a record of an input: by the records before it
module _ {b : List ℕ} {x : Record} (p : In b x) where
  abbrev pub graph_at : Gathered
  graph_at = graph_in p.before

  abbrev pub calls_at : List Call
  calls_at = calls_in p.before

  abbrev pub history_at : History
  history_at = history_behind p.before

  abbrev pub OpenAt : Type 0
  OpenAt = OpenAfter p.before

-- ---- the exported call

-- how many lines fit into `space` bytes, up to the first that does not
unfoldable pub fit_count : ℕ → List (List ℕ) → ℕ
fit_count space [] = 0
fit_count space (l ∷ ls) = if leb (length l) space then suc (fit_count (space - length l) ls) else 0

module _ {b : List ℕ} (t : TableIn b) where
  -- the first m lines of the table, and all before them, fit into the bytes
  abbrev pub FitsIn : ℕ → List ℕ → Type 0
  FitsIn m lines = length (joined_lines (earlier t ++ take m (printed t))) ≤ length lines

  -- the bytes of its first m lines: those that stand behind the lines before it
  abbrev pub bytes_of : ℕ → List ℕ → List ℕ
  bytes_of m lines = take (length (joined_lines (take m (printed t)))) (drop (length (joined_lines (earlier t))) lines)

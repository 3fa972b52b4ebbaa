-- Where a run stands, by what the memory holds: the struct of crate `record_run`, the block, the scratch, and the words of edges and virtual vertices.
use Rattle.std.specs.Prelude.{ℕ, ◌≤◌, ◌<◌, ◌≡◌, Bool, true, false, List, ℤ, length, take, drop}
use Rattle.graph.specs.State.{vertex_count, edge_count}
use Rattle.graph.specs.Open.{sizes_ok}
use Rattle.graph.specs.Layout.{block_length, state_of}
use Rattle.graph.specs.Form.{Formed}
use Rattle.pass.specs.Scratch.{zero_scratch}
use Rattle.calls.specs.Calls.{Call, respond}
use Rattle.reachable.specs.Reachable.{Reachable}
use Rattle.records.specs.Record.{Record, decoded, next_record, next}
use Rattle.records.specs.Lines.{joined_lines}
use Rattle.records.specs.Run.{Gathered, Stage, fresh, gathering, running, ended, record_step}
use Rattle.records.specs.declared.setup.Setup.{Setup}
use Rattle.records.specs.Setup.{SetupHolds}
use Rattle.records.specs.Opening.{large_sizes}
use Rattle.records.specs.Write.{LinesPut}

-- ---- the memory of a run

-- the part of the block that the sizes take
abbrev pub part_of : Setup → List ℤ → List ℤ
part_of s block = take (block_length s.v s.e s.n s.l) block

-- the start of the block is opened with these sizes, which are not above the program's
pub record Runs (s : Setup) (block : List ℤ) : Type 0 where
  pub small : large_sizes s ≡ false
  pub sizes : sizes_ok s.v s.e s.n s.l ≡ true
  pub formed : Formed (part_of s block)
  pub reachable : Reachable (state_of (part_of s block))
  pub vertices : vertex_count (state_of (part_of s block)) ≡ s.v
  pub edges : edge_count (state_of (part_of s block)) ≡ s.e

-- from the words block₀ to block: a call on the opened graph
pub record Asked (s : Setup) (block₀ block : List ℤ) (k : Call) : Type 0 where
  pub runs : Runs s block
  pub state : state_of (part_of s block) ≡ (respond (state_of (part_of s block₀)) k).state

-- what a run keeps between records
pub record Memory : Type 0 where
  pub stage : ℕ
  pub setup : Setup
  pub block : List ℤ
  pub edges : List ℤ
  pub virtuals : List ℤ

abbrev pub memory : ℕ → Setup → List ℤ → List ℤ → List ℤ → Memory
memory k s block edges virtuals = record { stage = k; setup = s; block = block; edges = edges; virtuals = virtuals }

-- the memory holds where the run stands
unfoldable pub Stands : Memory → Stage → Type 0
Stands m fresh = m.stage ≡ 0
Stands m (gathering g) = (m.stage ≡ 1) × SetupHolds m.setup m.edges m.virtuals g
Stands m (running c) = (m.stage ≡ 2) × Runs m.setup m.block × (state_of (part_of m.setup m.block) ≡ c)
Stands m ended = m.stage ≡ 3

-- the memory is that of a run
pub record Standing (m : Memory) : Type 0 where
  pub at : Stage
  pub stands : Stands m at

-- before the opening the memory holds what was gathered
pub record Gathers (s : Setup) (edges virtuals : List ℤ) : Type 0 where
  pub gathered : Gathered
  pub holding : SetupHolds s edges virtuals gathered

-- the lent words are many enough for the program's sizes, and the scratch is all zero
pub record MemorySuffices (block scratch edges virtuals : List ℤ) : Type 0 where
  pub words : 4096 ≤ length block
  pub scratch-words : 576 ≤ length scratch
  pub edge-words : 384 ≤ length edges
  pub virtual-words : 65 ≤ length virtuals
  pub zero : scratch ≡ zero_scratch (length scratch)

-- ---- one record

-- From the memory m to m', and from the lines b, n, full to c, i, stopped, by record number k: wherever the run stood
-- it now stands where the definition has it, and the lines that the definition gives are told.
pub record RecordStepped (k : ℕ) (m m' : Memory) (b : List ℕ) (n : ℕ) (full : Bool) (c : List ℕ) (i : ℕ) (stopped : Bool) (x : Record) : Type 0 where
  pub stands : (s : Stage) → Stands m s → Stands m' (record_step k s x).stage
  pub told : (s : Stage) → Stands m s → LinesPut b n full c i stopped (record_step k s x).lines

-- From the memory m to m' by record number k, whose body is given, with the bytes `out` for its lines: wherever the run stood, it now stands where the
-- definition has it, and the bytes are all lines that the definition gives.
pub record RecordTold (k : ℕ) (m m' : Memory) (body out : List ℕ) : Type 0 where
  pub promise : (s : Stage) → Stands m s → Stands m' (record_step k s (decoded body)).stage × (out ≡ joined_lines (record_step k s (decoded body)).lines)

-- the same of the record that begins at place i of the input; the one after it begins at j
pub record Stepped (input : List ℕ) (i j k : ℕ) (m m' : Memory) (b : List ℕ) (n : ℕ) (full : Bool) (c : List ℕ) (l : ℕ) (stopped : Bool) : Type 0 where
  pub said : Record
  pub is-next : next_record (drop i input) ≡ next said (drop j input)
  pub turned : RecordStepped k m m' b n full c l stopped said
  pub on : i < j
  pub within : j ≤ length input

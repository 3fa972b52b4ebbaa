-- A run whose input comes in blocks, cut anywhere.
use Rattle.std.specs.Prelude.{ℕ, ◌+◌, ◌≡◌, List, ◌++◌, ℤ, length}
use Rattle.records.specs.Lines.{joined_lines}
use Rattle.records.specs.Run.{Stage, run_from}
use Rattle.records.specs.declared.setup.Setup.{Setup}
use Rattle.record_step.specs.Standing.{Memory, Stands, memory}

-- all that a run writes from record k on, where it stands at s and b is the rest of its input
unfoldable pub lines_after : ℕ → Stage → List ℕ → List ℕ
lines_after k s b = joined_lines (run_from (length b) k s b)

-- From stage s behind k records with the bytes b at hand to the memory m' behind k' records with the bytes `rest` at hand: it stands at a stage from
-- which, whatever bytes follow, the run writes what the run from s writes behind the bytes `out`.
pub record RanTo (k : ℕ) (s : Stage) (b : List ℕ) (k' : ℕ) (m' : Memory) (rest out : List ℕ) : Type 0 where
  pub at : Stage
  pub stands : Stands m' at
  pub lines : (more : List ℕ) → lines_after (k + 1) s (b ++ more) ≡ out ++ lines_after (k' + 1) at (rest ++ more)

-- the same from the memory m, wherever the run stood
pub record BlockRun (k k' : ℕ) (m m' : Memory) (b rest out : List ℕ) : Type 0 where
  pub ran : (s : Stage) → Stands m s → RanTo k s b k' m' rest out

-- the same with some bytes `out`
pub record BlockRan (k k' : ℕ) (m m' : Memory) (b rest : List ℕ) : Type 0 where
  pub out : List ℕ
  pub run : BlockRun k k' m m' b rest out

-- From the memory m behind k records with the bytes b at hand some records were run, whose lines may not all be written. The block and the words of edges
-- and virtual vertices are those of the run then.
pub record BlockLost (k : ℕ) (m : Memory) (block edges virtuals : List ℤ) (b : List ℕ) : Type 0 where
  pub count : ℕ
  pub stage : ℕ
  pub setup : Setup
  pub rest : List ℕ
  pub ran : BlockRan k count m (memory stage setup block edges virtuals) b rest

-- Blocks, however the input is cut into them, join to the run of the definition.
use Rattle.std.specs.Prelude.{ℕ, ◌+◌, ◌<◌, ◌≡◌, ◌≢◌, false, List, ◌++◌, length}
use Rattle.records.specs.Lines.{joined_lines}
use Rattle.records.specs.Run.{ends, lines_of}
use Rattle.record_step.specs.Standing.{Memory}
use Rattle.lines_export.specs.Whole.{whole_at}
use Rattle.cardrun.specs.Blocks.{BlockRun}
use Rattle.cardrun.specs.laws.Blocks.{block-then, block-before}
use Rattle.cardrun.specs.laws.End.{all-told-ended, all-told-nothing, all-told-cut}

-- Bytes that were read when others had been run: what was left of those stands before them, and both blocks are as one.
pub blocks-join : {k k' k'' : ℕ} {m m' m'' : Memory} {b rest rest' out out' : List ℕ} (piece : List ℕ) → BlockRun k k' m m' b rest out
    → BlockRun k' k'' m' m'' (rest ++ piece) rest' out' → BlockRun k k'' m m'' (b ++ piece) rest' (out ++ out')
blocks-join piece p q = block-then (block-before piece p) q

-- From the first record on, blocks that join to the input b told the bytes `out`, and `rest` is left. These are all that
-- the program must write if the run has ended, or if nothing is left; and with the line of a record that is cut if bytes
-- are left that are no whole record.
pub blocks-are-the-run : {k : ℕ} {m m' : Memory} {b rest out : List ℕ} → BlockRun 0 k m m' b rest out → m.stage ≡ 0
    → (m'.stage ≡ 3 → lines_of b ≡ out) × (length rest ≡ 0 → lines_of b ≡ out)
    × (m'.stage < 3 → length rest ≢ 0 → whole_at rest 0 ≡ false
    → lines_of b ≡ out ++ joined_lines (ends (k + 1) 3).lines)
blocks-are-the-run p e = (all-told-ended p e, all-told-nothing p e, all-told-cut p e)

use native.Mathlib.Omega.{arith}
use Rattle.update_length.specs.laws.Length.{half_up, half_down}
use Rattle.update_length.proofs.lengths.half.Goals as goal

pub returns-then-x-ge-ZERO : goal.returns-then-x-ge-ZERO
returns-then-x-ge-ZERO c = (half_up _ c.if-x-ge-ZERO.true, omega arith)

pub returns-else-x-ge-ZERO : goal.returns-else-x-ge-ZERO
returns-else-x-ge-ZERO c = (half_down _ (omega arith), omega arith)

use native.Mathlib.Omega.{arith}
use Rattle.shrink_pass.specs.laws.Shrinking.{does-note}
use Rattle.shrink_pass.proofs.keep.note.Goals as goal

pub returns : goal.returns
returns c = λ b h q. rw c.put.ensures (does-note q _ h (omega arith))

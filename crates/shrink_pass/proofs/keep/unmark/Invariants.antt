use mathlib.Core.Path.{◌≡◌}
use lib.ListN.{length}
use Rattle.shrink_pass.specs.inner.Shrinking.{unmarked}
use Rattle.shrink_pass.proofs.keep.unmark.Given as goal

abbrev pub invariant-loop-i : goal.invariant-loop-i
invariant-loop-i l = (l.t ≡ unmarked l.initial.t l.m l.i) × (length l.t ≡ length l.initial.t)

use mathlib.Core.Path.{◌≡◌}
use lib.ListN.{length}
use Rattle.graph.proofs.Copies.{Copied}
use Rattle.graph.proofs.words.copy_each.Given as goal

abbrev pub invariant-loop-i : goal.invariant-loop-i
invariant-loop-i g l = Copied l.from l.initial.to l.i l.to × (length l.to ≡ length l.initial.to)

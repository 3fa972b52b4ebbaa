use mathlib.Core.Path.{◌≡◌}
use lib.ListN.{length}
use Rattle.sheet.specs.Sheet.{values_from}
use Rattle.sheet.specs.laws.Sheet.{weighed_to}
use Rattle.sheet.proofs.weights.weigh.Given as goal

abbrev pub invariant-loop-i : goal.invariant-loop-i
invariant-loop-i l = (length l.edges ≡ length l.initial.edges) × (l.edges ≡ weighed_to (values_from l.sheet) l.initial.edges l.i)

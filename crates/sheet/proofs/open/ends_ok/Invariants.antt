use mathlib.Core.Path.{◌≡◌}
use mathlib.Core.Bool.{true}
use lib.ListN.{take}
use Rattle.graph.specs.Basic.{all}
use Rattle.graph.specs.Opening.{edges_from}
use Rattle.sheet.specs.Called.{ends_ok}
use Rattle.sheet.proofs.open.ends_ok.Given as goal

abbrev pub invariant-loop-i : goal.invariant-loop-i
invariant-loop-i l = all (ends_ok l.v) (take l.i (edges_from l.edges)) ≡ true

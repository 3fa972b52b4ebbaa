use lib.ListN.{drop}
use Rattle.graph.specs.Layout.{state_of}
use Rattle.graph.specs.Basic.{any}
use lib.Dec.{eqb}
use mathlib.Core.Path.{◌≡◌}
use Rattle.active_list.proofs.stands_in.Given as goal

abbrev pub invariant-loop-i : goal.invariant-loop-i
invariant-loop-i l = any (eqb l.n) (drop l.i (state_of l.b).active) ≡ any (eqb l.n) (state_of l.b).active

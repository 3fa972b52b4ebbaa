use mathlib.Core.Path.{◌≡◌}
use mathlib.Core.Bool.{true}
use lib.Dec.{ltb}
use lib.ListN.{take}
use Rattle.graph.specs.Basic.{all}
use Rattle.graph.specs.State.{side_count, boundary_of}
use Rattle.graph.specs.Layout.{state_of}
use Rattle.node_tests.proofs.node_lists.sides_from.Given as goal

abbrev pub invariant-loop-i : goal.invariant-loop-i
invariant-loop-i l = all (λ s. ltb s (side_count (state_of l.b))) (take l.i (boundary_of (state_of l.b) l.n)) ≡ true

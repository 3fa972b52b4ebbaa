use Rattle.graph.specs.Sound.{side_sound}
use Rattle.graph.specs.Layout.{state_of}
use Rattle.graph.specs.Basic.{all_below}
use mathlib.Core.Bool.{true}
use mathlib.Core.Path.{◌≡◌}
use Rattle.graph_tests.proofs.sides.sides_in.Given as goal

abbrev pub invariant-loop-s : goal.invariant-loop-s
invariant-loop-s l = (all_below (side_sound (state_of l.b)) l.s ≡ true)

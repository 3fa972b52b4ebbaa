use mathlib.Core.Path.{◌≡◌}
use mathlib.Core.Bool.{true}
use lib.ListN.{take}
use Rattle.graph.specs.Basic.{all}
use Rattle.graph.specs.State.{overgrown_of}
use Rattle.graph.specs.Sound.{over_sound}
use Rattle.graph.specs.Layout.{state_of}
use Rattle.node_tests.proofs.node_lists.overgrown_sound.Given as goal

abbrev pub invariant-loop-i : goal.invariant-loop-i
invariant-loop-i l = (all (over_sound (state_of l.b)) (take l.i (overgrown_of (state_of l.b) l.n)) ≡ true)

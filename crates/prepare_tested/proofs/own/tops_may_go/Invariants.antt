use mathlib.Core.Path.{◌≡◌}
use mathlib.Core.Bool.{true}
use lib.ListN.{take}
use Rattle.graph.specs.Basic.{all}
use Rattle.graph.specs.State.{overgrown_of}
use Rattle.pass.specs.Shrink.{empty_tops}
use Rattle.pass.specs.KeepsSound.{may_go}
use Rattle.graph.specs.Layout.{state_of}
use Rattle.prepare_tested.proofs.own.tops_may_go.Given as goal

abbrev pub invariant-loop-i : goal.invariant-loop-i
invariant-loop-i l = (all (may_go l.n (state_of l.b)) (take l.i (empty_tops (overgrown_of (state_of l.b) l.n))) ≡ true)

use mathlib.Core.Path.{◌≡◌}
use mathlib.Core.Bool.{true}
use lib.ListN.{take}
use Rattle.graph.specs.Basic.{all}
use Rattle.graph.specs.State.{sides_at}
use Rattle.pass.specs.KeepsSound.{own_side}
use Rattle.graph.specs.Layout.{state_of}
use Rattle.prepare_tested.proofs.own.own_sides.Given as goal

abbrev pub invariant-loop-i : goal.invariant-loop-i
invariant-loop-i l = (all (own_side l.n (state_of l.b)) (take l.i (sides_at (state_of l.b) l.v)) ≡ true)

use lib.ListN.{take}
use Rattle.graph.specs.Basic.{fold}
use Rattle.graph.specs.State.{sides_at}
use Rattle.graph.specs.Layout.{state_of}
use Rattle.shrink_pass.specs.inner.Shrinking.{ShrinkWorked, part_side}
use Rattle.shrink_pass.proofs.release.part_sides.Given as goal

abbrev pub invariant-loop-i : goal.invariant-loop-i
invariant-loop-i l = ShrinkWorked l.initial.b l.initial.t l.b l.t l.m l.initial.q l.q
    (λ w. fold (part_side l.off l.n) w (take l.i (sides_at (state_of l.initial.b) l.v)))

use lib.ListN.{take}
use Rattle.graph.specs.Basic.{fold}
use Rattle.graph.specs.State.{overgrown_of}
use Rattle.graph.specs.Layout.{state_of}
use Rattle.pass.specs.Shrink.{empty_tops, drop_step}
use Rattle.shrink_pass.specs.inner.Shrinking.{ShrinkWorked}
use Rattle.shrink_pass.proofs.tops.drop_tops.Given as goal

abbrev pub invariant-loop-i : goal.invariant-loop-i
invariant-loop-i l = ShrinkWorked l.initial.b l.initial.t l.b l.t l.m l.initial.q l.q
    (λ w. fold (drop_step l.n) w (take l.i (empty_tops (overgrown_of (state_of l.initial.b) l.n))))

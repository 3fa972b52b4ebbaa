use Prim.Native.Nat.{◌≤◌}
use lib.ListN.{take}
use Rattle.graph.specs.Basic.{fold}
use Rattle.graph.specs.State.{boundary_of}
use Rattle.graph.specs.Layout.{state_of}
use Rattle.pass.specs.inner.Free.{free_count}
use Rattle.pass.specs.inner.Once.{shrink_step_once}
use Rattle.shrink_pass.specs.inner.Shrinking.{ShrinkWorked}
use Rattle.shrink_pass.proofs.shrink.shrink_scan.Given as goal

abbrev pub invariant-loop-i : goal.invariant-loop-i
invariant-loop-i l =
    ShrinkWorked l.initial.b l.initial.t l.b l.t l.m l.initial.q l.q
    (λ w. fold shrink_step_once w (take l.i (boundary_of (state_of l.initial.b) l.n)))
    × (l.q.noted ≤ free_count (state_of l.b))

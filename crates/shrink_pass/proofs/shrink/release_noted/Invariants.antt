use Prim.Native.Nat.{◌*◌}
use lib.ListN.{take}
use Rattle.graph.specs.Basic.{fold}
use Rattle.graph.specs.Word.{numbers_at}
use Rattle.pass.specs.inner.Once.{release_once}
use Rattle.shrink_pass.specs.inner.Shrinking.{ShrinkWorked}
use Rattle.shrink_pass.proofs.shrink.release_noted.Given as goal

abbrev pub invariant-loop-i : goal.invariant-loop-i
invariant-loop-i l = ShrinkWorked l.initial.b l.initial.t l.b l.t l.m l.initial.q l.q
    (λ w. fold (release_once l.n) w (take l.i (numbers_at l.initial.t (2 * l.m) l.initial.q.noted)))

use Rattle.graph.specs.State.{sides_at}
use Rattle.graph.specs.Layout.{state_of}
use Rattle.pass.specs.Grow.{take_side}
use Rattle.grow_pass.specs.inner.Growing.{OwnKept}
use Rattle.grow_pass.specs.laws.Growing.{Looped}
use Rattle.grow_pass.proofs.take.take_sides.Given as goal

abbrev pub invariant-loop-i : goal.invariant-loop-i
invariant-loop-i l = Looped (take_side l.n l.g) l.initial.b l.initial.t l.b l.t l.n l.m l.initial.q l.q
    (sides_at (state_of l.initial.b) l.v) l.i × OwnKept l.b l.t l.n l.m l.q

use Prim.Native.Nat.{◌*◌}
use Rattle.graph.specs.Word.{numbers_at}
use Rattle.pass.specs.inner.Once.{take_once}
use Rattle.grow_pass.specs.laws.Growing.{Looped}
use Rattle.grow_pass.specs.laws.Take.{Noting}
use Rattle.grow_pass.proofs.take.take_noted.Given as goal

abbrev pub invariant-loop-i : goal.invariant-loop-i
invariant-loop-i l = Looped (take_once l.n) l.initial.b l.initial.t l.b l.t l.n l.m l.initial.q l.q
    (numbers_at l.initial.t (2 * l.m) l.initial.q.noted) l.i × Noting l.b l.initial.t l.t l.n l.m l.initial.q l.q l.i

use Rattle.graph.specs.Layout.{state_of}
use Rattle.graph.specs.inner.Form.{Becomes}
use Rattle.growth.proofs.laws.Moving.{moved_to}
use Rattle.growth.proofs.move_sides.Given as goal

abbrev pub invariant-loop-i : goal.invariant-loop-i
invariant-loop-i l = Becomes l.initial.b l.b (moved_to (state_of l.initial.b) l.n l.d l.l l.i)

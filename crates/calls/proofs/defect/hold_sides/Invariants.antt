use Rattle.calls.proofs.laws.Defect.{HeldSides}
use Rattle.calls.proofs.defect.hold_sides.Given as goal

abbrev pub invariant-loop-i : goal.invariant-loop-i
invariant-loop-i l = HeldSides l.initial.b l.b l.t l.n l.v l.i

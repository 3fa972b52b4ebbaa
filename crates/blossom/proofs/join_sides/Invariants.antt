use Rattle.blossom.specs.laws.Blossom.{SidesJoined}
use Rattle.blossom.proofs.join_sides.Given as goal

abbrev pub invariant-loop-i : goal.invariant-loop-i
invariant-loop-i l = SidesJoined l.initial.b l.b l.initial.t l.t l.m l.n l.k l.i l.q

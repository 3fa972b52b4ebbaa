use Rattle.remove.specs.laws.Opened.{Returned}
use Rattle.remove.proofs.opened.return_members.Given as goal

abbrev pub invariant-loop-m : goal.invariant-loop-m
invariant-loop-m l = Returned l.initial.b l.b l.n l.m

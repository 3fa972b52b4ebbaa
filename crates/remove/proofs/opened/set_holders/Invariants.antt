use Rattle.remove.specs.laws.Opened.{HoldersSet}
use Rattle.remove.proofs.opened.set_holders.Given as goal

abbrev pub invariant-loop-i : goal.invariant-loop-i
invariant-loop-i l = HoldersSet l.initial.b l.b l.n l.x l.i

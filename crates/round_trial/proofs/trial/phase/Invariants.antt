use Rattle.round_trial.specs.laws.Trying.{Trying}
use Rattle.round_trial.proofs.trial.phase.Given as goal

abbrev pub invariant-loop-i : goal.invariant-loop-i
invariant-loop-i l = Trying l.l l.x l.initial.b l.b l.initial.t l.t l.i

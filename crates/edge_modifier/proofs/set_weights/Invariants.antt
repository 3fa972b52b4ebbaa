use Rattle.edge_modifier.specs.laws.Load.{WeightsSet}
use Rattle.edge_modifier.proofs.set_weights.Given as goal

abbrev pub invariant-loop-i : goal.invariant-loop-i
invariant-loop-i l = WeightsSet l.initial.b l.b l.pairs l.i

use Rattle.open_graph.specs.laws.Open.{Rest}
use Rattle.calls.specs.Erasures.{pairs_from, weight_in_range}
use Rattle.edge_modifier.proofs.weights_in_range.Given as goal

abbrev pub invariant-loop-i : goal.invariant-loop-i
invariant-loop-i l = Rest weight_in_range (pairs_from l.pairs) l.i

use Rattle.graph.specs.Layout.{state_of}
use Rattle.open_graph.specs.laws.Open.{Rest}
use Rattle.calls.specs.Erasures.{pairs_from, names_edge}
use Rattle.edge_modifier.proofs.edges_named.Given as goal

abbrev pub invariant-loop-i : goal.invariant-loop-i
invariant-loop-i l = Rest (names_edge (state_of l.b)) (pairs_from l.pairs) l.i

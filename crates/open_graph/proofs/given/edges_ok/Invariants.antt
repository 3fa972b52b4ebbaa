use Rattle.graph.specs.Open.{edge_ok}
use Rattle.graph.specs.Opening.{edges_from}
use Rattle.open_graph.specs.laws.Open.{Rest}
use Rattle.open_graph.proofs.given.edges_ok.Given as goal

abbrev pub invariant-loop-i : goal.invariant-loop-i
invariant-loop-i l = Rest (edge_ok l.v) (edges_from l.edges) l.i

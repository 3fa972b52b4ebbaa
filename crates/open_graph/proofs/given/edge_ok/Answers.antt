use Rattle.graph.specs.Open.{edge_ok}
use Rattle.graph.specs.Opening.{edge_at}
use Rattle.open_graph.proofs.given.edge_ok.Goals as goal

pub returns : goal.returns
unfolding edge_ok edge_at
returns c = cc

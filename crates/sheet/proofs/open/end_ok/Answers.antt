use Rattle.graph.specs.Opening.{edge_at}
use Rattle.sheet.specs.Called.{ends_ok}
use Rattle.sheet.proofs.open.end_ok.Goals as goal

pub returns : goal.returns
unfolding ends_ok edge_at
returns c = cc

use Rattle.records.specs.Setup.{edge_added}
use borrow.Author.Rules.{rules}
use Rattle.records.proofs.setup.add_edge.Goals as goal

pub returns : goal.returns
unfolding edge_added
returns c = (cc, cc)

use Rattle.graph.specs.Sound.{emptied, entries_of}
use Rattle.node_tests.proofs.removed.emptied.Goals as goal

pub returns : goal.returns
unfolding emptied entries_of
returns c = cc

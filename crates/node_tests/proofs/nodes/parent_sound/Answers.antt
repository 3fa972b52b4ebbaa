use Rattle.graph.specs.Sound.{parent_sound, node_or_none}
use Rattle.graph.specs.Layout.{state_of, state_from}
use Rattle.graph.specs.laws.Scan.{node-get}
use Rattle.node_tests.proofs.nodes.parent_sound.Goals as goal

pub returns : goal.returns
unfolding parent_sound node_or_none state_of state_from
returns c = cc (node-get c.args.b.now 13 c.args.n c.requires.0 c.requires.1)

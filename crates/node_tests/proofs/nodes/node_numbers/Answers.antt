use Rattle.graph.specs.Form.{Laid}
use Rattle.graph.specs.inner.Scans.{node_numbers}
use Rattle.graph.specs.Layout.{state_of, state_from}
use Rattle.graph.specs.laws.Scan.{node-get}
use borrow.Author.Rules.{rules}
use Rattle.node_tests.proofs.nodes.node_numbers.Goals as goal

pub node_word-s-requires : goal.node_word-s-requires
unfolding Laid
node_word-s-requires c = search rules

pub node_word-d-requires : goal.node_word-d-requires
unfolding Laid
node_word-d-requires c = search rules

pub returns : goal.returns
unfolding node_numbers state_of state_from
returns c =
    cc (
      node-get c.args.b.now 12 c.args.n c.requires.0 c.requires.1,
      node-get c.args.b.now 14 c.args.n c.requires.0 c.requires.1,
    )

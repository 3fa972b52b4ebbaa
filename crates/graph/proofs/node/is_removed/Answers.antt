use Rattle.graph.specs.laws.Scan.{removed-node}
use Rattle.graph.specs.Form.{Laid}
use borrow.Author.Rules.{rules}
use Rattle.graph.proofs.node.is_removed.Goals as goal

pub node_word-x-requires : goal.node_word-x-requires
unfolding Laid
node_word-x-requires c = search rules

pub returns : goal.returns
returns c =
    rw (
      removed-node c.args.b.now c.args.n c.requires.0 c.requires.1,
      ← c.vertex_count-v.ensures.0,
      ← c.node_word-x.ensures.0,
    )

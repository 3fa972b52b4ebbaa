use borrow.Author.Rules.{rules}
use native.Mathlib.Omega.{arith}
use Rattle.graph.specs.Form.{Laid}
use Rattle.graph.specs.laws.Field.{class-read}
use Rattle.graph.proofs.node.class.Goals as goal

pub node_word-requires : goal.node_word-requires
unfolding Laid
node_word-requires c = (c.requires.0.laid, omega arith, omega arith)

pub returns : goal.returns
returns c = rw c.node_word.ensures.0 (class-read c.args.b.now c.requires.0.laid c.args.n c.requires.1, search rules)

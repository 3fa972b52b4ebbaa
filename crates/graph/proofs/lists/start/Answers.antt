use native.Mathlib.Omega.{arith}
use Rattle.graph.specs.laws.List.{lists_of, nodes-within, store-max}
use Rattle.graph.proofs.lists.start.Goals as goal

pub node_word-requires : goal.node_word-requires
node_word-requires c = (c.requires.0, omega arith, omega (arith, nodes-within c.args.b.now c.requires.0))

pub returns : goal.returns
returns c =
    let q = lists_of c.args.b.now c.args.n c.requires.0 c.requires.1 c.requires.2 in
    let m = store-max c.args.b.now c.requires.0 in
    (c.node_word.ensures.0, omega arith)

use Rattle.remove.specs.laws.Opened.{sides-in, returned-none, returned-more, returned-all}
use native.Mathlib.Omega.{arith}
use Rattle.remove.proofs.opened.return_members.Goals as goal

pub loop-m-init : goal.loop-m-init
loop-m-init c = returned-none _ c.requires.0

pub return_node-requires : goal.return_node-requires
return_node-requires c =
    let q = c.loop-m.invariant in
    (q.block.formed, sides-in q.block q.lists c.requires.1, omega (arith, q.block.nodes), c.requires.2)

pub loop-m-preserved : goal.loop-m-preserved
loop-m-preserved c = returned-more c.loop-m.invariant c.return_node.ensures

pub returns : goal.returns
returns c = returned-all c.loop-m.invariant (omega arith)

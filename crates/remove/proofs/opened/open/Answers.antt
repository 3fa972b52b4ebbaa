use Rattle.remove.specs.laws.Opened.{sides-in, holders-lists, blossom-opened}
use native.Mathlib.Omega.{arith}
use Rattle.remove.proofs.opened.open.Goals as goal

pub return_members-requires : goal.return_members-requires
return_members-requires c =
    let q = c.set_holders.ensures in
    (q.formed, sides-in q (holders-lists 0 _ q) c.requires.1, omega (arith, c.requires.2, c.requires.0.nodes-max))

pub remove_node-requires : goal.remove_node-requires
remove_node-requires c =
    let q = c.return_members.ensures in
    (q.formed, omega (arith, q.nodes, c.set_holders.ensures.nodes, c.requires.2))

pub returns : goal.returns
returns c =
    blossom-opened c.args.n c.set_holders.ensures
    c.return_members.ensures c.remove_node.ensures

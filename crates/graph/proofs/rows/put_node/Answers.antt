use Prim.Native.Nat.{◌+◌}
use Rattle.graph.specs.laws.Row.{rowed-put}
use Rattle.graph.proofs.rows.put_node.Goals as goal

pub returns : goal.returns
returns c =
    rw c.put.ensures
    (rowed-put c.args.b.now (11 + c.args.k) c.args.n c.node_place-p.result c.args.x
    c.requires.0 c.node_place-p.ensures)

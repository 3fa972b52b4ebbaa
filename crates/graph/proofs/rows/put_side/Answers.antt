use Prim.Native.Nat.{◌+◌}
use Rattle.graph.specs.laws.Row.{rowed-put}
use Rattle.graph.proofs.rows.put_side.Goals as goal

pub returns : goal.returns
returns c =
    rw c.put.ensures
    (rowed-put c.args.b.now (5 + c.args.k) c.args.s c.side_place-p.result c.args.x
    c.requires.0 c.side_place-p.ensures)

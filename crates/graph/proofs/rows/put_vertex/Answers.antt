use Prim.Native.Nat.{◌+◌}
use Rattle.graph.specs.laws.Row.{rowed-put}
use Rattle.graph.proofs.rows.put_vertex.Goals as goal

pub returns : goal.returns
returns c =
    rw c.put.ensures
    (rowed-put c.args.b.now (1 + c.args.k) c.args.v c.vertex_place-p.result
    c.args.x c.requires.0 c.vertex_place-p.ensures)

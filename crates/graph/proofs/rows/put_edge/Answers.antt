use Rattle.graph.specs.laws.Row.{rowed-put}
use Rattle.graph.proofs.rows.put_edge.Goals as goal

pub returns : goal.returns
returns c =
    rw c.put.ensures
    (rowed-put c.args.b.now 10 c.args.i c.edge_place-p.result c.args.x c.requires.0
    c.edge_place-p.ensures)

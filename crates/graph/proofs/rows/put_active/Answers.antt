use Rattle.graph.specs.laws.Row.{rowed-put}
use Rattle.graph.proofs.rows.put_active.Goals as goal

pub returns : goal.returns
returns c =
    rw c.put.ensures
    (rowed-put c.args.b.now 19 c.args.i c.active_place-p.result c.args.x c.requires.0
    c.active_place-p.ensures)

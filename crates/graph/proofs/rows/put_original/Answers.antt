use Rattle.graph.specs.laws.Row.{rowed-put}
use Rattle.graph.proofs.rows.put_original.Goals as goal

pub returns : goal.returns
returns c =
    rw c.put.ensures
    (rowed-put c.args.b.now 20 c.args.i c.original_place-p.result c.args.x c.requires.0
    c.original_place-p.ensures)

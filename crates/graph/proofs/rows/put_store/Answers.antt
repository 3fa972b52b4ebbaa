use Rattle.graph.specs.laws.Row.{rowed-put}
use Rattle.graph.proofs.rows.put_store.Goals as goal

pub returns : goal.returns
returns c =
    rw c.put.ensures
    (rowed-put c.args.b.now 18 c.args.i c.store_place-p.result c.args.x c.requires.0
    c.store_place-p.ensures)

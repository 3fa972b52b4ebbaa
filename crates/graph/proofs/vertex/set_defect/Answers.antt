use Rattle.graph.specs.laws.Field.{defect-put}
use Rattle.graph.proofs.vertex.set_defect.Goals as goal

pub returns : goal.returns
returns c =
    defect-put c.args.v c.args.x c.requires.0
    (rw c.vertex_word-f.ensures.0 at c.put_vertex.ensures)

use Rattle.store.specs.laws.Clear.{vertices-rewritten}
use Rattle.store.proofs.clear.clear_vertices.Goals as goal

pub returns : goal.returns
returns c =
    vertices-rewritten _ _ _ _ c.drop_defects.ensures
    c.zero_vertices.ensures c.zero_vertices-2.ensures

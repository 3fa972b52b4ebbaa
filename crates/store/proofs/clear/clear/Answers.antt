use Rattle.store.specs.laws.Clear.{cleared-of}
use Rattle.store.proofs.clear.clear.Goals as goal

pub returns : goal.returns
returns c =
    cleared-of _ _ _ _ _ _ _
    c.requires
    c.put_node_count.ensures
    c.put_active_count.ensures
    c.put_reweighted.ensures
    c.restore_weights.ensures
    c.clear_vertices.ensures c.clear_sides.ensures

use Rattle.store.specs.laws.Clear.{sides-rewritten}
use Rattle.store.proofs.clear.clear_sides.Goals as goal

pub returns : goal.returns
returns c =
    sides-rewritten _ _ _ _ c.zero_sides.ensures
    c.zero_sides-2.ensures c.zero_sides-3.ensures

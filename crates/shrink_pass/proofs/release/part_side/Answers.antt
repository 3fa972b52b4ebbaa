use Rattle.shrink_pass.specs.laws.Release.{does-part-drop, does-part-free, does-free-side}
use Rattle.shrink_pass.proofs.release.part_side.Goals as goal

pub returns-then-off-closed : goal.returns-then-off-closed
returns-then-off-closed c =
    does-part-drop _ _ _
    (rw c.closed.ensures
    at c.if-off-closed.true)
    c.drop_side.ensures

pub returns-else-off-closed : goal.returns-else-off-closed
returns-else-off-closed c =
    does-part-free _ _ _ (rw c.closed.ensures at c.if-off-closed.false)
    (does-free-side c.requires.0 _ c.free.ensures)

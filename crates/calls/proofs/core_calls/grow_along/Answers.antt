use mir.Facts.{to_z-of_z}
use Rattle.calls.proofs.core_calls.grow_along.Goals as goal

pub returns : goal.returns
returns c =
    let g = c.grow_along.ensures in
    (rw (to_z-of_z c.ranges.length) at g.0, g.1)

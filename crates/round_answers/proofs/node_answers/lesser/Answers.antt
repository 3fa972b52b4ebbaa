use Rattle.round_answers.specs.laws.Answers.{lesser-first, lesser-second}
use mir.Facts.{to_z-of_z}
use Rattle.round_answers.proofs.node_answers.lesser.Goals as goal

pub returns-then-x-y : goal.returns-then-x-y
returns-then-x-y c =
    rw (to_z-of_z c.ranges.x)
    (lesser-first c.args.x c.args.y
    (rw (to_z-of_z c.ranges.x, to_z-of_z c.ranges.y) at c.if-x-y.true))

pub returns-else-x-y : goal.returns-else-x-y
returns-else-x-y c =
    rw (to_z-of_z c.ranges.y)
    (lesser-second c.args.x c.args.y
    (rw (to_z-of_z c.ranges.x, to_z-of_z c.ranges.y) at c.if-x-y.false))

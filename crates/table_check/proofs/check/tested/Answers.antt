use Rattle.table_check.specs.Tests.{tested}
use Rattle.table_check.specs.laws.Choice.{both-then, not-both}
use Rattle.table_check.proofs.check.tested.Goals as goal

pub returns-then-positive-in_reach : goal.returns-then-positive-in_reach
unfolding tested
returns-then-positive-in_reach c =
    rw (c.rows_right.ensures, ← c.positive.ensures, ← c.in_reach.ensures)
    (both-then c.positive.result c.in_reach.result _ c.if-positive-in_reach.true)

pub returns-else-positive-in_reach : goal.returns-else-positive-in_reach
unfolding tested
returns-else-positive-in_reach c =
    rw (← c.positive.ensures, ← c.in_reach.ensures) (not-both c.positive.result c.in_reach.result _ c.if-positive-in_reach.false)

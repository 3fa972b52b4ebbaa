use borrow.Author.Tests.{ne_eqb, eq-eqb}
use Rattle.graph.specs.Sound.{live_or_none}
use Rattle.node_tests.proofs.removed.live_or_none.Goals as goal

pub returns-then-x-eq0 : goal.returns-then-x-eq0
unfolding live_or_none
returns-then-x-eq0 c = rw (eq-eqb _ 0 c.if-x-eq0.true)

pub returns-else-x-eq0 : goal.returns-else-x-eq0
unfolding live_or_none
returns-else-x-eq0 c = rw (ne_eqb _ 0 c.if-x-eq0.false, c.is_removed.ensures)

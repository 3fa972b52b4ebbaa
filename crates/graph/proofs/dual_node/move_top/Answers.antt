use borrow.Author.Tests.{eq-eqb, ne_eqb}
use Rattle.graph.specs.Node.{moved_top}
use Rattle.graph.proofs.dual_node.move_top.Goals as goal

pub move_number-requires : goal.move_number-requires
move_number-requires c = c.requires c.if-n-eq0.false

pub returns-then-n-eq0 : goal.returns-then-n-eq0
unfolding moved_top
returns-then-n-eq0 c = rw (eq-eqb _ _ c.if-n-eq0.true)

pub returns-else-n-eq0 : goal.returns-else-n-eq0
unfolding moved_top
returns-else-n-eq0 c = rw (ne_eqb _ _ c.if-n-eq0.false) c.move_number.ensures

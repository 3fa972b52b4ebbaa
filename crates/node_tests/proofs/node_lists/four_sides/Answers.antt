use Rattle.node_tests.specs.inner.Four.{four}
use Rattle.node_tests.proofs.node_lists.four_sides.Goals as goal

pub returns : goal.returns
unfolding four
returns c = rw (c.is_side.ensures, c.is_side-2.ensures, c.is_side-3.ensures, c.is_side-4.ensures)

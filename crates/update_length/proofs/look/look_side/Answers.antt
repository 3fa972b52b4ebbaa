use borrow.Author.Tests.{eq-eqb, ne_eqb}
use Rattle.update_length.specs.Scan.{look}
use Rattle.update_length.proofs.look.look_side.Goals as goal

pub returns-then-d-eq-UP : goal.returns-then-d-eq-UP
unfolding look
returns-then-d-eq-UP c = rw (eq-eqb _ _ c.if-d-eq-UP.true) c.look_grow.ensures

pub returns-else-d-eq-UP : goal.returns-else-d-eq-UP
unfolding look
returns-else-d-eq-UP c = rw (ne_eqb _ _ c.if-d-eq-UP.false) c.look_shrink.ensures

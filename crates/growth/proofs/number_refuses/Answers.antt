use borrow.Author.Tests.{eq-eqb, ne_eqb}
use Rattle.growth.specs.inner.Moving.{number_refuses}
use Rattle.growth.proofs.number_refuses.Goals as goal

pub returns-then-k-eq12 : goal.returns-then-k-eq12
unfolding number_refuses
returns-then-k-eq12 c = rw (eq-eqb c.args.k 12 c.if-k-eq12.true)

pub returns-else-k-eq12 : goal.returns-else-k-eq12
unfolding number_refuses
returns-else-k-eq12 c = rw (ne_eqb c.args.k 12 c.if-k-eq12.false)

use borrow.Author.Tests.{eq-eqb, ne_eqb}
use Rattle.growth.specs.inner.Moving.{side_refuses}
use Rattle.growth.proofs.side_refuses.Goals as goal

pub returns-then-k-eq10 : goal.returns-then-k-eq10
unfolding side_refuses
returns-then-k-eq10 c = rw (eq-eqb c.args.k 10 c.if-k-eq10.true) c.passes_weight.ensures

pub returns-then-k-eq12 : goal.returns-then-k-eq12
unfolding side_refuses
returns-then-k-eq12 c =
    rw (
      ne_eqb c.args.k 10 c.if-k-eq10.false,
      eq-eqb c.args.k 12 c.if-k-eq12.true,
      c.growth.ensures.0,
    )

pub returns-else-k-eq12 : goal.returns-else-k-eq12
unfolding side_refuses
returns-else-k-eq12 c =
    rw (
      ne_eqb c.args.k 10 c.if-k-eq10.false,
      ne_eqb c.args.k 12 c.if-k-eq12.false,
      c.growth-else-k-eq12.ensures.0,
    )

use native.Mathlib.Omega.{arith}
use borrow.Author.Tests.{eq-eqb, ne_eqb}
use Rattle.calls.specs.Calls.{toward}
use Rattle.calls.proofs.advance.direction.Goals as goal

pub returns-then-x-eq-GROW : goal.returns-then-x-eq-GROW
unfolding toward
returns-then-x-eq-GROW c = (rw (eq-eqb c.args.x 1 c.if-x-eq-GROW.true), omega arith)

pub returns-else-x-eq-GROW : goal.returns-else-x-eq-GROW
unfolding toward
returns-else-x-eq-GROW c = (rw (ne_eqb c.args.x 1 c.if-x-eq-GROW.false), omega arith)

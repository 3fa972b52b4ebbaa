use Rattle.small_patches.specs.Words.{weight_of}
use borrow.Author.Tests.{eq-eqb, ne_eqb}
use native.Mathlib.Omega.{arith}
use Rattle.small_patches.proofs.patch.weight_of.Goals as goal

pub returns-then-digit-eq1 : goal.returns-then-digit-eq1
unfolding weight_of
returns-then-digit-eq1 c = (rw (eq-eqb _ _ c.if-digit-eq1.true), omega arith)

pub returns-else-digit-eq1 : goal.returns-else-digit-eq1
unfolding weight_of
returns-else-digit-eq1 c = (rw (ne_eqb _ _ c.if-digit-eq1.false), omega arith)

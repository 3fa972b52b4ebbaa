use native.Mathlib.Omega.{arith}
use borrow.Author.Tests.{eq-eqb, ne_eqb}
use Rattle.graph.specs.Node.{moved}
use Rattle.graph.proofs.dual_node.move_number.Goals as goal

pub overflow_add-result : goal.overflow_add-result
overflow_add-result c = omega (arith, c.requires.rises c.if-direction-eq-UP.true)

pub overflow_sub-result : goal.overflow_sub-result
overflow_sub-result c = omega (arith, c.requires.falls c.if-direction-eq-UP.false)

pub returns-then-direction-eq-UP : goal.returns-then-direction-eq-UP
unfolding moved
returns-then-direction-eq-UP c = rw (eq-eqb _ _ c.if-direction-eq-UP.true)

pub returns-else-direction-eq-UP : goal.returns-else-direction-eq-UP
unfolding moved
returns-else-direction-eq-UP c = rw (ne_eqb _ _ c.if-direction-eq-UP.false)

use native.Mathlib.Omega.{arith}
use Rattle.graph.specs.Layout.{fits_at}
use Rattle.node_tests.specs.laws.Pack.{three-of}
use Rattle.node_tests.proofs.node_lists.fits_at.Goals as goal

pub overflow_add-result : goal.overflow_add-result
overflow_add-result c = let s = c.args in let q = three-of s.a s.l s.s s.k s.o c.if-s-a.true in omega arith

pub overflow_add-result-then-s-a : goal.overflow_add-result-then-s-a
overflow_add-result-then-s-a c = let s = c.args in let q = three-of s.a s.l s.s s.k s.o c.if-s-a.true in omega arith

pub returns-then-s-a : goal.returns-then-s-a
unfolding fits_at
returns-then-s-a c = rw c.if-s-a.true

pub returns-else-s-a : goal.returns-else-s-a
unfolding fits_at
returns-else-s-a c = rw c.if-s-a.false

use borrow.Author.Tests.{eq-eqb, ne_eqb}
use Rattle.dual_module_modifier.specs.Called.{pairs_refusal}
use borrow.Author.Rules.{rules}
use Rattle.dual_module_modifier.proofs.refusal.Goals as goal

pub returns-then-m-eq0 : goal.returns-then-m-eq0
unfolding pairs_refusal
returns-then-m-eq0 c = rw (eq-eqb _ _ c.if-m-eq0.true) c.refusal.ensures

pub returns-else-m-eq0 : goal.returns-else-m-eq0
unfolding pairs_refusal
returns-else-m-eq0 c = rw (ne_eqb _ _ c.if-m-eq0.false)

use native.Mathlib.Omega.{arith}
use mathlib.Core.Path.{sym, ◌∙◌}
use Rattle.graph.specs.laws.Top.{amount-none, amount-some}
use Rattle.graph.proofs.top.amount.Goals as goal

pub returns-then-overgrown_len-eq0 : goal.returns-then-overgrown_len-eq0
returns-then-overgrown_len-eq0 c = (sym (amount-none _ (sym c.overgrown_len.ensures.0 ∙ c.if-overgrown_len-eq0.true)), omega arith)

pub returns-else-overgrown_len-eq0 : goal.returns-else-overgrown_len-eq0
returns-else-overgrown_len-eq0 c = (c.overgrown_amount.ensures.0 ∙ amount-some _ _ (omega (arith, c.overgrown_len.ensures.0)), c.overgrown_amount.ensures.1)

use native.Mathlib.Omega.{arith}
use mathlib.Core.Path.{sym, ◌∙◌, ◌≡◌}
use Rattle.graph.specs.Layout.{overgrown_from}
use Rattle.shrink_pass.specs.laws.Top.{count-more, count-stop, count-all}
use Rattle.shrink_pass.proofs.tops.empty_tops.Goals as goal

pub loop-i-preserved : goal.loop-i-preserved
loop-i-preserved c = (
    count-more _ _ _ c.loop-i.invariant (omega arith)
    (sym c.overgrown_amount.ensures.0 ∙ c.if-overgrown_amount-ne0.false)
    )

pub returns-then-overgrown_amount-ne0 : goal.returns-then-overgrown_amount-ne0
returns-then-overgrown_amount-ne0 c =
    count-stop _ _ _ c.loop-i.invariant (omega arith)
    (λ z. c.if-overgrown_amount-ne0.true (c.overgrown_amount.ensures.0 ∙ z))

pub returns : goal.returns
returns c = let z : c.overgrown_len-l.result ≡ c.loop-i.i = omega arith in z
    ∙ count-all _ _ (overgrown_from 0) c.loop-i.invariant (omega arith)

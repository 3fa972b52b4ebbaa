use native.Mathlib.Omega.{arith}
use mathlib.Core.Path.{sym, ◌∙◌}
use Rattle.graph.specs.State.{overgrown_of}
use Rattle.graph.specs.Layout.{state_of}
use Rattle.update_length.specs.laws.Scanning.{limit-none, limit-top}
use Rattle.update_length.proofs.scan.shrink_limit.Goals as goal

pub returns-then-overgrown_len-eq0 : goal.returns-then-overgrown_len-eq0
returns-then-overgrown_len-eq0 c =
    let d = c.dual-y.ensures.0 in
    let r = c.requires.1.duals c.args.n in
    (rw (← d) (limit-none _ _ (sym c.overgrown_len.ensures.0 ∙ c.if-overgrown_len-eq0.true)), omega (arith, d, r))

pub returns-else-overgrown_len-eq0 : goal.returns-else-overgrown_len-eq0
returns-else-overgrown_len-eq0 c =
    let d = c.dual-y.ensures.0 in
    let r = c.requires.1.duals c.args.n in
    let l = c.overgrown_len.ensures.0 in
    let o = overgrown_of (state_of c.args.b.now) c.args.n in (
      c.min.ensures
          ∙ rw (← d, c.overgrown_amount-a.ensures.0) (limit-top _ o (λ e. c.if-overgrown_len-eq0.false (l ∙ e))),
      omega (arith, d, r, c.min.ensures),
    )

use mathlib.Core.Path.{◌≡◌, sym, ◌∙◌}
use mathlib.Core.Bool.{true, false}
use Rattle.graph.specs.State.{dual_of, overgrown_of}
use Rattle.graph.specs.Layout.{state_of}
use Rattle.growth.specs.inner.Moving.{number_refuses, node_refuses}
use Rattle.growth.proofs.laws.Moving.{top-none, top-some}
use Rattle.growth.proofs.node_refuses.Goals as goal

pub returns-then-number_refuses : goal.returns-then-number_refuses
unfolding node_refuses
returns-then-number_refuses c =
    let a = c.args in
    let e : number_refuses a.l a.k (dual_of (state_of a.b.now) a.n) ≡ true =
    rw c.dual-y.ensures.0 at (sym c.number_refuses.ensures ∙ c.if-number_refuses.true) in
    rw e

pub returns-then-overgrown_len-eq0 : goal.returns-then-overgrown_len-eq0
unfolding node_refuses
returns-then-overgrown_len-eq0 c =
    let a = c.args in
    let e : number_refuses a.l a.k (dual_of (state_of a.b.now) a.n) ≡ false =
    rw c.dual-y.ensures.0
    at (sym c.number_refuses.ensures ∙ c.if-number_refuses.false) in
    rw (
      e,
      top-none (number_refuses a.l a.k) (overgrown_of (state_of a.b.now) a.n)
          (sym c.overgrown_len.ensures.0 ∙ c.if-overgrown_len-eq0.true),
    )

pub returns-else-overgrown_len-eq0 : goal.returns-else-overgrown_len-eq0
unfolding node_refuses
returns-else-overgrown_len-eq0 c =
    let a = c.args in
    let e : number_refuses a.l a.k (dual_of (state_of a.b.now) a.n) ≡ false =
    rw c.dual-y.ensures.0
    at
    (sym c.number_refuses.ensures
    ∙ c.if-number_refuses.false) in
    rw (
      e,
      top-some (number_refuses a.l a.k) (overgrown_of (state_of a.b.now) a.n)
          (λ z. c.if-overgrown_len-eq0.false (c.overgrown_len.ensures.0 ∙ z)),
      ← c.amount-a.ensures.0,
    )
    c.number_refuses-else-overgrown_len-eq0.ensures

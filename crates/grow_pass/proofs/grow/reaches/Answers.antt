use borrow.Author.Tests.{eq-eqb, ne_eqb}
use mathlib.Core.Path.{◌≡◌}
use Rattle.graph.specs.State.{opposite, holder_at, grown_over, weight_over}
use Rattle.graph.specs.Layout.{state_of}
use Rattle.pass.specs.Grow.{reaches}
use Rattle.grow_pass.proofs.grow.reaches.Goals as goal

pub returns-then-grown-weight : goal.returns-then-grown-weight
unfolding reaches
returns-then-grown-weight c =
    let d = state_of c.args.b.now in
    rw (ne_eqb (grown_over d c.args.s) (weight_over d c.args.s) (λ e. c.if-grown-weight.true (cc e)))

pub returns-then-holder-ne0 : goal.returns-then-holder-ne0
unfolding reaches
returns-then-holder-ne0 c =
    let d = state_of c.args.b.now in
    let full : grown_over d c.args.s ≡ weight_over d c.args.s = cc in
    rw (eq-eqb (grown_over d c.args.s) (weight_over d c.args.s) full, ne_eqb (holder_at d (opposite c.args.s)) 0 (λ e. c.if-holder-ne0.true (cc e)))

pub returns : goal.returns
unfolding reaches
returns c =
    let d = state_of c.args.b.now in
    let full : grown_over d c.args.s ≡ weight_over d c.args.s = cc in
    let free : holder_at d (opposite c.args.s) ≡ 0 = cc in
    rw (eq-eqb (grown_over d c.args.s) (weight_over d c.args.s) full, eq-eqb (holder_at d (opposite c.args.s)) 0 free) cc

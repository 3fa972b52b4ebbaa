use borrow.Author.Tests.{eq-eqb, ne_eqb}
use mathlib.Core.Path.{◌≡◌}
use Rattle.graph.specs.State.{growth_at}
use Rattle.graph.specs.Layout.{state_of}
use Rattle.shrink_pass.specs.inner.Shrinking.{vertex_left}
use Rattle.shrink_pass.proofs.shrink.emptied.Goals as goal

pub returns-then-growth-ne0 : goal.returns-then-growth-ne0
unfolding vertex_left
returns-then-growth-ne0 c =
    rw (ne_eqb (growth_at (state_of c.args.b.now) c.args.s) 0 (λ e. c.if-growth-ne0.true (cc e)))

pub returns : goal.returns
unfolding vertex_left
returns c =
    let empty : growth_at (state_of c.args.b.now) c.args.s ≡ 0 = cc in
    rw (eq-eqb (growth_at (state_of c.args.b.now) c.args.s) 0 empty) cc

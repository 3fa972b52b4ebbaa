use mathlib.Core.Path.{sym, ◌∙◌}
use Rattle.graph.specs.Layout.{state_of}
use Rattle.growth.proofs.laws.Moving.{refused-10, refused-12, grown-up, refused-11, grown-down}
use Rattle.growth.proofs.grow_check.Goals as goal

pub returns-then-boundary_refuses : goal.returns-then-boundary_refuses
returns-then-boundary_refuses c =
    let a = c.args in
    refused-10 (state_of a.b.now) a.n a.d a.l c.if-d-eq-UP.true
    (sym c.boundary_refuses.ensures ∙ c.if-boundary_refuses.true)

pub returns-then-refuses : goal.returns-then-refuses
returns-then-refuses c =
    let a = c.args in
    refused-12 (state_of a.b.now) a.n a.d a.l c.if-d-eq-UP.true
    (sym c.boundary_refuses.ensures ∙ c.if-boundary_refuses.false)
    (sym c.refuses.ensures ∙ c.if-refuses.true)

pub returns-else-refuses : goal.returns-else-refuses
returns-else-refuses c =
    let a = c.args in
    grown-up (state_of a.b.now) a.n a.d a.l c.if-d-eq-UP.true
    (sym c.boundary_refuses.ensures ∙ c.if-boundary_refuses.false)
    (sym c.refuses.ensures ∙ c.if-refuses.false)

pub returns-then-refuses-2 : goal.returns-then-refuses-2
returns-then-refuses-2 c =
    let a = c.args in
    refused-11 (state_of a.b.now) a.n a.d a.l c.if-d-eq-UP.false
    (sym c.refuses-else-d-eq-UP.ensures ∙ c.if-refuses-2.true)

pub returns-else-refuses-2 : goal.returns-else-refuses-2
returns-else-refuses-2 c =
    let a = c.args in
    grown-down (state_of a.b.now) a.n a.d a.l c.if-d-eq-UP.false
    (sym c.refuses-else-d-eq-UP.ensures ∙ c.if-refuses-2.false)

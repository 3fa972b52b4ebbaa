use Rattle.growth.proofs.laws.Gap.{passes-own, passes-other, passes-left, passes_over}
use Rattle.gap.specs.laws.Gap.{left-side, over-side}
use Rattle.graph.specs.Layout.{state_of}
use mathlib.Core.Path.{sym, ◌∙◌}
use Rattle.growth.proofs.passes_weight.Goals as goal

pub returns-then-holder-n : goal.returns-then-holder-n
returns-then-holder-n c =
    let a = c.args in
    passes-own (state_of a.b.now) a.n a.l a.s c.opposite-o.ensures.0 c.holder.ensures.0 c.if-holder-n.true

pub returns-in-Inner : goal.returns-in-Inner
returns-in-Inner c =
    let a = c.args in
    passes-other (state_of a.b.now) a.n a.l a.s c.opposite-o.ensures.0 c.holder.ensures.0
    c.if-holder-n.false c.passes_inner.ensures

pub returns-in-Over : goal.returns-in-Over
returns-in-Over c =
    let a = c.args in
    let e = over-side (state_of a.b.now) a.s c.in-Over.field-0 (sym c.in-Over.is ∙ c.edge_gap.ensures) in
    passes-other (state_of a.b.now) a.n a.l a.s c.opposite-o.ensures.0 c.holder.ensures.0
    c.if-holder-n.false (passes_over _ _ c.in-Over.field-0 _ e.0 e.1)

pub returns-in-Left : goal.returns-in-Left
returns-in-Left c =
    let a = c.args in
    let e = left-side (state_of a.b.now) a.s c.in-Left.x (sym c.in-Left.is ∙ c.edge_gap.ensures) in
    passes-other (state_of a.b.now) a.n a.l a.s c.opposite-o.ensures.0 c.holder.ensures.0
    c.if-holder-n.false (passes-left _ _ _ _ e)

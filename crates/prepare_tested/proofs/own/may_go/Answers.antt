use mathlib.Core.Path.{sym, ◌∙◌}
use Rattle.graph.specs.Layout.{state_of}
use Rattle.prepare_tested.specs.laws.Cases.{may-go-free, may-go-own, may-go-other}
use Rattle.prepare_tested.proofs.own.may_go.Goals as goal

pub returns-then-h-eq0 : goal.returns-then-h-eq0
returns-then-h-eq0 c = let a = c.args in
    may-go-free a.n (state_of a.b.now) a.v (sym c.holder-h.ensures.0 ∙ c.if-h-eq0.true)

pub returns-then-h-n : goal.returns-then-h-n
returns-then-h-n c = let a = c.args in
    c.own_sides.ensures ∙ may-go-own a.n (state_of a.b.now) a.v (sym c.holder-h.ensures.0 ∙ c.if-h-n.true)

pub returns-else-h-n : goal.returns-else-h-n
returns-else-h-n c = let a = c.args in
    let e = c.holder-h.ensures.0 in
    may-go-other a.n (state_of a.b.now) a.v (λ z. c.if-h-eq0.false (e ∙ z)) (λ z. c.if-h-n.false (e ∙ z))

use mathlib.Core.Path.{sym, ◌∙◌}
use Rattle.graph.specs.Layout.{state_of}
use Rattle.prepare_tested.specs.laws.Cases.{side-goes, side-stays}
use Rattle.prepare_tested.proofs.own.side_may_go.Goals as goal

pub returns-then-emptied : goal.returns-then-emptied
returns-then-emptied c = let a = c.args in
    (rw c.end-v.ensures.0 at c.may_go.ensures)
    ∙ side-goes a.n (state_of a.b.now) a.s (sym c.emptied.ensures ∙ c.if-emptied.true)

pub returns-else-emptied : goal.returns-else-emptied
returns-else-emptied c = let a = c.args in
    side-stays a.n (state_of a.b.now) a.s (sym c.emptied.ensures ∙ c.if-emptied.false)

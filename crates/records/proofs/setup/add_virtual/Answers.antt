use Rattle.records.specs.Setup.{new_virtual}
use native.Mathlib.Omega.{arith}
use mathlib.Core.Path.{sym, ◌∙◌, ap}
use lib.IntN.{pos}
use lib.ListN.{set}
use Rattle.records.specs.laws.Setup.{virtual-out, virtual-new, virtual-old}
use borrow.Author.Rules.{rules}
use Rattle.records.proofs.setup.add_virtual.Goals as goal

pub returns-then-s-x : goal.returns-then-s-x
returns-then-s-x c = virtual-out _ _ _ (omega (arith, c.field-x.ensures.0))

pub returns-then-new_virtual : goal.returns-then-new_virtual
returns-then-new_virtual c =
    let a = c.args in
    let new =
    virtual-new a.s a.virtuals.now _ (omega (arith, c.field-x.ensures.0))
    (ap (λ y. new_virtual a.virtuals.now a.s.virtuals y) (sym c.field-x.ensures.0)
    ∙ sym c.new_virtual.ensures ∙ c.if-new_virtual.true) in
    (new.0, c.put.ensures ∙ ap (λ y. set a.virtuals.now a.s.virtuals (pos y)) c.field-x.ensures.0 ∙ new.1)

pub returns : goal.returns
returns c =
    let a = c.args in
    virtual-old a.s a.virtuals.now _ (omega (arith, c.field-x.ensures.0))
    (ap (λ y. new_virtual a.virtuals.now a.s.virtuals y) (sym c.field-x.ensures.0)
    ∙ sym c.new_virtual.ensures ∙ c.if-new_virtual.false)

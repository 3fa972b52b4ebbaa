use mathlib.Core.Path.{◌∙◌, sym}
use Rattle.records.specs.laws.Opening.{open-large, open-incomplete, open-bad, open-stored}
use Rattle.records.proofs.opening.open.Goals as goal

pub returns-then-large_sizes : goal.returns-then-large_sizes
returns-then-large_sizes c = open-large _ _ _ _ (sym c.large_sizes.ensures ∙ c.if-large_sizes.true)

pub returns-then-not-complete : goal.returns-then-not-complete
returns-then-not-complete c =
    open-incomplete _ _ _ _ (sym c.large_sizes.ensures ∙ c.if-large_sizes.false)
    (sym c.complete.ensures ∙ c.if-not-complete.true)

pub returns-then-s : goal.returns-then-s
returns-then-s c =
    open-bad _ _ _ _ (sym c.large_sizes.ensures ∙ c.if-large_sizes.false)
    (sym c.complete.ensures ∙ c.if-not-complete.false) c.if-s.true

pub open_into-requires : goal.open_into-requires
open_into-requires c = (
  c.requires.0,
  c.requires.1,
  c.requires.2,
  c.requires.3,
  sym c.large_sizes.ensures ∙ c.if-large_sizes.false,
  sym c.complete.ensures ∙ c.if-not-complete.false,
)

pub returns : goal.returns
returns c =
    let a = c.args in
    let o =
    open-stored a.s a.edges.now a.virtuals.now a.block.now
    (sym c.large_sizes.ensures ∙ c.if-large_sizes.false)
    (sym c.complete.ensures ∙ c.if-not-complete.false) c.if-s.false in
    (c.open_into.ensures.0 ∙ o.0, c.open_into.ensures.1 ∙ o.1)

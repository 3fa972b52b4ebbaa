use Rattle.lines_export.specs.laws.Stream.{cut-ends, stepped-cut, stepped-body}
use native.Mathlib.Omega.{arith}
use mathlib.Core.Path.{refl, sym, ◌∙◌}
use borrow.Author.Rules.{rules}
use Rattle.lines_export.proofs.step_on.Goals as goal

pub step_whole-requires : goal.step_whole-requires
step_whole-requires c = (
  sym c.whole.ensures.0 ∙ c.if-whole.true,
  c.requires.2,
  c.requires.3,
  search rules,
  c.requires.4,
  c.requires.5,
)

pub returns-then-whole : goal.returns-then-whole
returns-then-whole c =
    let e = c.step_whole.ensures in (
      stepped-body
          c.requires.0
          e.1 e.2 e.0,
      e.3,
      e.4,
    )

pub returns : goal.returns
returns c =
    let e = c.cut.ensures in
    let short = cut-ends _ _ (sym c.whole.ensures.0 ∙ c.if-whole.false) in
    (stepped-cut c.requires.0 c.requires.3 (omega (arith, short)) e.3 e.0 e.1, e.2, refl)

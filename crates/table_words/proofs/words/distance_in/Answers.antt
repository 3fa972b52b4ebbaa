use Rattle.table_words.specs.Handed.{distance_of}
use Rattle.table_words.specs.laws.Words.{distance-at, distance-outside}
use mathlib.Core.Path.{◌∙◌, ap}
use borrow.Author.Rules.{rules}
use Rattle.table_words.proofs.words.distance_in.Goals as goal

pub returns-then-u-row : goal.returns-then-u-row
returns-then-u-row c = (
  c.distance.ensures.0 ∙ ap distance_of (search rules)
      ∙ distance-at c.args.row.now c.args.u c.if-u-row.true,
  search rules,
)

pub returns-else-u-row : goal.returns-else-u-row
returns-else-u-row c = (distance-outside _ _ c.if-u-row.false, search rules)

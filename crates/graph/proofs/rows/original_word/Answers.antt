use mathlib.Core.Path.{◌∙◌}
use Rattle.graph.specs.laws.Row.{rows_get}
use borrow.Author.Rules.{rules}
use Rattle.graph.proofs.rows.original_word.Goals as goal

pub returns : goal.returns
returns c = (
  c.word.ensures.0
      ∙ rows_get c.args.b.now 20 c.args.i c.original_place.result c.original_place.ensures.stands,
  search rules,
)

use mathlib.Core.Path.{◌∙◌}
use Rattle.graph.specs.laws.Row.{rows_get}
use borrow.Author.Rules.{rules}
use Rattle.graph.proofs.rows.edge_word.Goals as goal

pub returns : goal.returns
returns c = (
  c.word.ensures.0
      ∙ rows_get c.args.b.now 10 c.args.i c.edge_place.result c.edge_place.ensures.stands,
  search rules,
)

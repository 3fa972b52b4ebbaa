use Prim.Native.Nat.{◌+◌}
use mathlib.Core.Path.{◌∙◌}
use Rattle.graph.specs.laws.Row.{rows_get}
use borrow.Author.Rules.{rules}
use Rattle.graph.proofs.rows.side_word.Goals as goal

pub returns : goal.returns
returns c = (
  c.word.ensures.0
      ∙ rows_get c.args.b.now (5 + c.args.k) c.args.s c.side_place.result
      c.side_place.ensures.stands,
  search rules,
)

use Prim.Native.Nat.{◌+◌}
use mathlib.Core.Path.{◌∙◌}
use Rattle.graph.specs.laws.Row.{rows_get}
use borrow.Author.Rules.{rules}
use Rattle.graph.proofs.rows.vertex_word.Goals as goal

pub returns : goal.returns
returns c = (
  c.word.ensures.0
      ∙ rows_get c.args.b.now (1 + c.args.k) c.args.v c.vertex_place.result
      c.vertex_place.ensures.stands,
  search rules,
)

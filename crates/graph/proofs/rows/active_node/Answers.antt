use mathlib.Core.Path.{◌∙◌}
use native.Mathlib.Omega.{arith}
use Rattle.graph.specs.Form.{Laid}
use Rattle.graph.specs.laws.Form.{active-entry}
use borrow.Author.Rules.{rules}
use Rattle.graph.proofs.rows.active_node.Goals as goal

pub active_place-requires : goal.active_place-requires
unfolding Laid
active_place-requires c = (c.requires.0, omega (arith, c.requires.0.counted.actives))

pub returns : goal.returns
returns c = (
  c.word.ensures.0
      ∙ active-entry c.args.b.now c.args.i c.active_place.result c.requires.1
      c.active_place.ensures.stands,
  search rules,
)

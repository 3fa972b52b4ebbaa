use native.Mathlib.Omega.{arith}
use mathlib.Core.Path.{sym, ◌∙◌}
use Rattle.graph.specs.Layout.{state_of, state_from}
use Rattle.graph.specs.Form.{Laid}
use Rattle.graph.specs.laws.Row.{header-get}
use borrow.Author.Rules.{rules}
use Rattle.graph.proofs.rows.reweighted.Goals as goal

pub word-requires : goal.word-requires
unfolding Laid
word-requires c = search rules

pub returns : goal.returns
unfolding state_of state_from
returns c = (c.word.ensures.0 ∙ sym (header-get c.args.b.now 6 (omega arith)), search rules)

use Rattle.graph.specs.Word.{word_at, to_nat}
use lib.Dec.{eqb}
use mathlib.Core.Path.{◌∙◌, ap}
use borrow.Author.Rules.{rules}
use Rattle.block_rows.proofs.row_words.holds.Goals as goal

pub returns : goal.returns
unfolding word_at
returns c = c.same.ensures ∙ ap (λ x. eqb (to_nat x) c.args.m) (search rules)

use Rattle.graph.specs.Word.{word_at, to_nat}
use lib.Dec.{ltb}
use mathlib.Core.Path.{◌∙◌, ap}
use borrow.Author.Rules.{rules}
use Rattle.block_rows.proofs.row_words.below.Goals as goal

pub returns : goal.returns
unfolding word_at
returns c = c.less.ensures ∙ ap (λ x. ltb (to_nat x) c.args.m) (search rules)

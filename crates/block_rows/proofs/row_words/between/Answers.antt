use Rattle.graph.specs.Word.{word_at, to_nat}
use lib.Dec.{leb}
use mathlib.Core.Bool.{◌&&◌}
use mathlib.Core.Path.{◌∙◌, ap}
use borrow.Author.Rules.{rules}
use Rattle.block_rows.proofs.row_words.between.Goals as goal

pub returns : goal.returns
unfolding word_at
returns c = c.within.ensures ∙ ap (λ x. leb c.args.a (to_nat x) && leb (to_nat x) c.args.m) (search rules)

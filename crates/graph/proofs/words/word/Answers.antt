use mathlib.Core.Path.{◌∙◌, ap}
use Rattle.graph.specs.Word.{word_at, to_nat}
use borrow.Author.Rules.{rules}
use Rattle.graph.proofs.words.word.Goals as goal

pub returns : goal.returns
unfolding word_at
returns c = (c.to_nat.ensures.0 ∙ ap to_nat (search rules), search rules)

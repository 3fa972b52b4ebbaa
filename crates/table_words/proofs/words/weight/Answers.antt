use Rattle.table_words.specs.Sides.{weight_in}
use borrow.Author.Rules.{rules}
use Rattle.table_words.proofs.words.weight.Goals as goal

pub returns : goal.returns
unfolding weight_in
returns c = (c.given.ensures.0, search rules)

use Rattle.table_words.specs.Sides.{near_in}
use borrow.Author.Rules.{rules}
use Rattle.table_words.proofs.words.near.Goals as goal

pub returns : goal.returns
unfolding near_in
returns c = (c.given.ensures.0, search rules)

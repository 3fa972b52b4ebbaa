use Rattle.table_words.specs.Sides.{across_in}
use borrow.Author.Rules.{rules}
use Rattle.table_words.proofs.words.across.Goals as goal

pub returns : goal.returns
unfolding across_in
returns c = (c.given.ensures.0, search rules)

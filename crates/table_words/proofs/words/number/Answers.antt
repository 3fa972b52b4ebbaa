use Rattle.table_words.specs.laws.Words.{word_none}
use borrow.Author.Rules.{rules}
use Rattle.table_words.proofs.words.number.Goals as goal

pub returns-else-i-list : goal.returns-else-i-list
returns-else-i-list c = (word_none _ _ c.if-i-list.false, search rules)

use mathlib.Core.Path.{◌∙◌}
use Rattle.open_graph.specs.laws.Open.{given_word, given-none}
use borrow.Author.Rules.{rules}
use Rattle.open_graph.proofs.given.given.Goals as goal

pub returns-then-i-words : goal.returns-then-i-words
returns-then-i-words c = (c.word.ensures.0 ∙ given_word _ _ c.if-i-words.true, search rules)

pub returns-else-i-words : goal.returns-else-i-words
returns-else-i-words c = (given-none _ _ c.if-i-words.false, search rules)

use Rattle.graph.specs.Layout.{state_of, state_from}
use borrow.Author.Rules.{rules}
use Rattle.graph.proofs.side.holder.Goals as goal

pub returns : goal.returns
unfolding state_of state_from
returns c = (c.side_word.ensures.0, search rules)

use Rattle.records.specs.Opening.{complete}
use borrow.Author.Rules.{rules}
use Rattle.records.proofs.opening.complete.Goals as goal

pub returns : goal.returns
unfolding complete
returns c = cc

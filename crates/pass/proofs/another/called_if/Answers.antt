use borrow.Author.Rules.{rules}
use Rattle.pass.specs.inner.Another.{called_if}
use Rattle.pass.proofs.another.called_if.Goals as goal

pub returns-then-z : goal.returns-then-z
unfolding called_if
returns-then-z c = search rules

pub returns-else-z : goal.returns-else-z
unfolding called_if
returns-else-z c = search rules

use borrow.Author.Rules.{rules}
use Rattle.pass.specs.inner.Another.{called}
use Rattle.pass.proofs.another.called.Goals as goal

pub returns : goal.returns
unfolding called
returns c = search rules

use borrow.Author.Tests.{lt-ltb, le-ltb}
use Rattle.records.specs.Setup.{stored_edge}
use borrow.Author.Rules.{rules}
use Rattle.records.proofs.setup.store_edge.Goals as goal

pub returns-then-i-lt128 : goal.returns-then-i-lt128
unfolding stored_edge
returns-then-i-lt128 c = rw (lt-ltb _ _ c.if-i-lt128.true) (cc)

pub returns-else-i-lt128 : goal.returns-else-i-lt128
unfolding stored_edge
returns-else-i-lt128 c = rw (le-ltb _ _ c.if-i-lt128.false)

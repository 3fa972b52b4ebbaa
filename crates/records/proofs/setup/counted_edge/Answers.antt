use borrow.Author.Tests.{lt-ltb, le-ltb}
use Rattle.records.specs.Setup.{counted_edge}
use borrow.Author.Rules.{rules}
use Rattle.records.proofs.setup.counted_edge.Goals as goal

pub returns-then-i-lt1000000 : goal.returns-then-i-lt1000000
unfolding counted_edge
returns-then-i-lt1000000 c = rw (lt-ltb _ _ c.if-i-lt1000000.true)

pub returns-else-i-lt1000000 : goal.returns-else-i-lt1000000
unfolding counted_edge
returns-else-i-lt1000000 c = rw (le-ltb _ _ c.if-i-lt1000000.false)

use Rattle.small_patches.specs.Reach.{spread_to}
use borrow.Author.Tests.{lt-ltb, le-ltb}
use Rattle.small_patches.proofs.reach.spread_to.Goals as goal

pub returns-then-mark-gt0 : goal.returns-then-mark-gt0
unfolding spread_to
returns-then-mark-gt0 c =
    let m = c.mark.ensures in
    rw (lt-ltb 0 _ (rw m at c.if-mark-gt0.true)) c.put_mark.ensures

pub returns-else-mark-gt0 : goal.returns-else-mark-gt0
unfolding spread_to
returns-else-mark-gt0 c = rw (le-ltb 0 _ (rw c.mark.ensures at c.if-mark-gt0.false))

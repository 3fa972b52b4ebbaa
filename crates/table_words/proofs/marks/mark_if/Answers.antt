use Rattle.table_words.specs.Sides.{mark_if}
use borrow.Author.Rules.{rules}
use Rattle.table_words.proofs.marks.mark_if.Goals as goal

pub returns-then-t : goal.returns-then-t
unfolding mark_if
returns-then-t c = rw c.if-t.true c.mark.ensures

pub returns-else-t : goal.returns-else-t
unfolding mark_if
returns-else-t c = rw c.if-t.false

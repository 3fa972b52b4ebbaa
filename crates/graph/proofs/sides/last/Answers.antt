use borrow.Author.Tests.{lt-ltb, le-ltb}
use Rattle.graph.specs.inner.SidesAt.{last_word}
use borrow.Author.Rules.{rules}
use Rattle.graph.proofs.sides.last.Goals as goal

pub returns-then-v-m : goal.returns-then-v-m
unfolding last_word
returns-then-v-m c = (rw (lt-ltb _ _ (rw c.vertex_count-m.ensures.0 at c.if-v-m.true)) c.first.ensures.0, search rules)

pub returns-else-v-m : goal.returns-else-v-m
unfolding last_word
returns-else-v-m c = (rw (le-ltb _ _ (rw c.vertex_count-m.ensures.0 at c.if-v-m.false)) c.side_count.ensures.0, search rules)

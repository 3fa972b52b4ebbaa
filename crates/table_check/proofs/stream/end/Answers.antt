use Rattle.std.proofs.lemmas.Bool.{not-true, not-false}
use Rattle.table_check.specs.Streamed.{ended}
use Rattle.table_check.proofs.stream.end.Goals as goal

pub returns-then-not-k : goal.returns-then-not-k
unfolding ended
returns-then-not-k c = rw (not-true c.args.k.in_range c.if-not-k.true)

pub returns : goal.returns
unfolding ended
returns c = rw (not-false c.args.k.in_range c.if-not-k.false, ← c.free.ensures)

use borrow.Author.Rules.{rules}
use Rattle.graph.proofs.Signed.{cast-asks, read-neg, read-nat, read_small}
use Rattle.graph.proofs.words.to_nat.Goals as goal

pub overflow_cast-result : goal.overflow_cast-result
overflow_cast-result c = cast-asks c.args.x c.ranges.x c.if-x-lt0.false

pub returns-then-x-lt0 : goal.returns-then-x-lt0
returns-then-x-lt0 c = (read-neg c.args.x c.ranges.x c.if-x-lt0.true, search rules)

pub returns-else-x-lt0 : goal.returns-else-x-lt0
returns-else-x-lt0 c = (read-nat c.args.x c.ranges.x c.if-x-lt0.false, read_small c.args.x c.ranges.x c.if-x-lt0.false)

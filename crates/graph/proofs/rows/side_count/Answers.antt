use native.Mathlib.Omega.{arith}
use Rattle.graph.specs.Form.{Laid}
use borrow.Author.Rules.{rules}
use Rattle.graph.proofs.rows.side_count.Goals as goal

pub word-requires : goal.word-requires
unfolding Laid
word-requires c = search rules

pub overflow_mul-result : goal.overflow_mul-result
unfolding Laid
overflow_mul-result c = search rules

pub returns : goal.returns
unfolding Laid
returns c = (omega arith, omega arith, omega arith)

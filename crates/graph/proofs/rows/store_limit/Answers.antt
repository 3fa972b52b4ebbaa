use borrow.Author.Rules.{rules}
use native.Mathlib.Omega.{arith}
use Rattle.graph.specs.Form.{Laid}
use Rattle.graph.proofs.rows.store_limit.Goals as goal

pub word-requires : goal.word-requires
unfolding Laid
word-requires c = search rules

pub returns : goal.returns
unfolding Laid
returns c = (omega arith, omega arith)

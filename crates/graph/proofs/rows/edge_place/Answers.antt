use borrow.Author.Rules.{rules}
use native.Mathlib.Omega.{arith}
use Rattle.graph.specs.Form.{Laid}
use Rattle.graph.specs.laws.Row.{edge-found}
use Rattle.graph.proofs.rows.edge_place.Goals as goal

pub word-m-requires : goal.word-m-requires
unfolding Laid
word-m-requires c = search rules

pub word-e-requires : goal.word-e-requires
unfolding Laid
word-e-requires c = search rules

pub overflow_mul-result : goal.overflow_mul-result
unfolding Laid
overflow_mul-result c = search rules

pub overflow_add-result : goal.overflow_add-result
unfolding Laid
overflow_add-result c = search rules

pub overflow_mul-result-2 : goal.overflow_mul-result-2
unfolding Laid
overflow_mul-result-2 c = search rules

pub overflow_add-result-2 : goal.overflow_add-result-2
unfolding Laid
overflow_add-result-2 c = search rules

pub overflow_add-result-3 : goal.overflow_add-result-3
unfolding Laid
overflow_add-result-3 c = search rules

pub returns : goal.returns
unfolding Laid
returns c =
    rw (c.word-m.ensures.0, c.word-e.ensures.0)
    (edge-found c.args.b.now c.requires.0.sized c.args.i (omega arith))

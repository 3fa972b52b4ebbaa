use borrow.Author.Rules.{rules}
use native.Mathlib.Omega.{arith}
use Rattle.graph.specs.Form.{Laid}
use Rattle.graph.specs.laws.Row.{active-found, laid-sizes}
use Rattle.graph.proofs.rows.active_place.Goals as goal

pub word-m-requires : goal.word-m-requires
unfolding Laid
word-m-requires c = search rules

pub word-e-requires : goal.word-e-requires
unfolding Laid
word-e-requires c = search rules

pub word-n-requires : goal.word-n-requires
unfolding Laid
word-n-requires c = search rules

pub word-l-requires : goal.word-l-requires
unfolding Laid
word-l-requires c = search rules

pub overflow_mul-result : goal.overflow_mul-result
unfolding Laid
overflow_mul-result c = search rules

pub overflow_add-result : goal.overflow_add-result
unfolding Laid
overflow_add-result c = search rules

pub overflow_mul-result-2 : goal.overflow_mul-result-2
unfolding Laid
overflow_mul-result-2 c = search rules

pub overflow_add-result-2 : goal.overflow_add-result-2
unfolding Laid
overflow_add-result-2 c = search rules

pub overflow_mul-result-3 : goal.overflow_mul-result-3
unfolding Laid
overflow_mul-result-3 c = search rules

pub overflow_add-result-3 : goal.overflow_add-result-3
unfolding Laid
overflow_add-result-3 c = search rules

pub overflow_add-result-4 : goal.overflow_add-result-4
unfolding Laid
overflow_add-result-4 c = search rules

pub overflow_add-result-5 : goal.overflow_add-result-5
overflow_add-result-5 c = let z = laid-sizes c.args.b.now c.requires.0 in omega arith

pub returns : goal.returns
unfolding Laid
returns c =
    rw (
      c.word-m.ensures.0,
      c.word-e.ensures.0,
      c.word-n.ensures.0,
      c.word-l.ensures.0,
    )
    (active-found c.args.b.now c.requires.0.sized c.args.i (omega arith))

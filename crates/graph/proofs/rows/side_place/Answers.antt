use native.Mathlib.Omega.{arith}
use Prim.Native.Nat.{◌*◌, ◌≤◌}
use Rattle.graph.specs.Form.{Laid}
use Rattle.graph.specs.laws.Row.{times_below, side-found}
use borrow.Author.Rules.{rules}
use Rattle.graph.proofs.rows.side_place.Goals.{After-word-e}
use Rattle.graph.proofs.rows.side_place.Goals as goal

product : (c : After-word-e) → c.args.k * (2 * c.word-e.result) ≤ 6 * (2 * c.word-e.result)
product c = times_below c.args.k (2 * c.word-e.result) (omega arith)

pub word-m-requires : goal.word-m-requires
unfolding Laid
word-m-requires c = search rules

pub word-e-requires : goal.word-e-requires
unfolding Laid
word-e-requires c = search rules

pub overflow_mul-result : goal.overflow_mul-result
unfolding Laid
overflow_mul-result c = search rules

pub overflow_add-result : goal.overflow_add-result
unfolding Laid
overflow_add-result c = search rules

pub overflow_mul-result-2 : goal.overflow_mul-result-2
unfolding Laid
overflow_mul-result-2 c = search rules

pub overflow_mul-result-3 : goal.overflow_mul-result-3
unfolding Laid
overflow_mul-result-3 c = omega (arith, product (goal.at.overflow_mul-result-3 c).After-word-e)

pub overflow_add-result-2 : goal.overflow_add-result-2
unfolding Laid
overflow_add-result-2 c = omega (arith, product (goal.at.overflow_add-result-2 c).After-word-e)

pub overflow_add-result-3 : goal.overflow_add-result-3
unfolding Laid
overflow_add-result-3 c = omega (arith, product (goal.at.overflow_add-result-3 c).After-word-e)

pub returns : goal.returns
unfolding Laid
returns c =
    rw (c.word-m.ensures.0, c.word-e.ensures.0)
    (side-found c.args.b.now c.requires.0.sized c.args.k c.args.s (omega arith) (omega arith))

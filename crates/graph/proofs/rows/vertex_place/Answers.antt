use Prim.Native.Nat.{◌*◌, ◌≤◌}
use borrow.Author.Rules.{rules}
use native.Mathlib.Omega.{arith}
use Rattle.graph.specs.Form.{Laid}
use Rattle.graph.specs.laws.Row.{times_below, vertex-found}
use Rattle.graph.proofs.rows.vertex_place.Goals.{After-word-m}
use Rattle.graph.proofs.rows.vertex_place.Goals as goal

product : (c : After-word-m) → c.args.k * c.word-m.result ≤ 6 * c.word-m.result
product c = times_below c.args.k c.word-m.result (omega arith)

pub word-m-requires : goal.word-m-requires
unfolding Laid
word-m-requires c = search rules

pub overflow_mul-result : goal.overflow_mul-result
unfolding Laid
overflow_mul-result c = omega (arith, product (goal.at.overflow_mul-result c).After-word-m)

pub overflow_add-result : goal.overflow_add-result
unfolding Laid
overflow_add-result c = omega (arith, product (goal.at.overflow_add-result c).After-word-m)

pub overflow_add-result-2 : goal.overflow_add-result-2
unfolding Laid
overflow_add-result-2 c = omega (arith, product (goal.at.overflow_add-result-2 c).After-word-m)

pub returns : goal.returns
unfolding Laid
returns c =
    rw c.word-m.ensures.0
    (vertex-found c.args.b.now c.requires.0.sized c.args.k c.args.v
    (omega arith) (omega arith))

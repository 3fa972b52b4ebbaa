use Rattle.graph.specs.laws.Shape.{edge-facts}
use Rattle.graph.specs.Form.{Laid}
use Rattle.graph.specs.Layout.{state_of}
use native.Mathlib.Omega.{arith}
use borrow.Author.Rules.{rules}
use Rattle.graph_tests.proofs.edges.walk_edge.Goals as goal

pub overflow_mul-i : goal.overflow_mul-i
unfolding Laid
overflow_mul-i c = search rules

pub walk_side-requires : goal.walk_side-requires
unfolding Laid
walk_side-requires c = let f = edge-facts (state_of c.args.b.now) c.args.i c.requires.3 in
    (c.requires.0, c.requires.1, omega arith, f.left, c.requires.4, c.requires.5, c.requires.6, c.requires.7)

pub overflow_mul-i-then-walk_side : goal.overflow_mul-i-then-walk_side
unfolding Laid
overflow_mul-i-then-walk_side c = search rules

pub overflow_add-i : goal.overflow_add-i
unfolding Laid
overflow_add-i c = search rules

pub walk_side-requires-then-walk_side : goal.walk_side-requires-then-walk_side
unfolding Laid
walk_side-requires-then-walk_side c = let f = edge-facts (state_of c.args.b.now) c.args.i c.requires.3 in (
  c.requires.0,
  c.requires.1,
  omega arith,
  f.right,
  c.requires.4,
  c.requires.5,
  search rules,
  c.walk_side.ensures.0 c.if-walk_side.true,
)

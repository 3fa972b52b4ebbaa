use Rattle.block_rows.specs.laws.Rows.{vertex-part, vertex-part-fits}
use Rattle.graph.specs.laws.Row.{times_below}
use Prim.Native.Nat.{◌+◌, ◌-◌, ◌*◌}
use mathlib.Core.Path.{◌≡◌}
use native.Mathlib.Omega.{arith}
use borrow.Author.Rules.{rules}
use Rattle.block_rows.proofs.parts.vertex_row.Goals as goal

pub overflow_mul-a : goal.overflow_mul-a
overflow_mul-a c = let p = times_below c.args.k c.vertex_count-n.result (omega arith) in omega (arith, p)

pub overflow_add-a : goal.overflow_add-a
overflow_add-a c = let p = times_below c.args.k c.vertex_count-n.result (omega arith) in omega (arith, p)

pub overflow_add-e : goal.overflow_add-e
overflow_add-e c = let p = times_below c.args.k c.vertex_count-n.result (omega arith) in omega (arith, p)

pub offset_bounds-b-a : goal.offset_bounds-b-a
offset_bounds-b-a c = let p = times_below c.args.k c.vertex_count-n.result (omega arith) in omega (arith, p)

pub slice_bounds-result-end : goal.slice_bounds-result-end
slice_bounds-result-end c =
    let f = vertex-part-fits c.args.b.now c.requires.0 c.args.k c.vertex_count-n.result c.requires.1 c.vertex_count-n.ensures.0 in
    search rules

pub returns : goal.returns
returns c =
    let n = c.vertex_count-n.result in
    let a = 16 + c.args.k * n in
    let z : a + n - a ≡ n = omega arith in
    rw z (vertex-part c.args.b.now c.requires.0 c.args.k n c.requires.1 c.vertex_count-n.ensures.0)

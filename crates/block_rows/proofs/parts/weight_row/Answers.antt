use Rattle.block_rows.specs.laws.Rows.{edge-part, edge-part-fits}
use Prim.Native.Nat.{◌+◌, ◌-◌, ◌*◌}
use mathlib.Core.Path.{◌≡◌}
use native.Mathlib.Omega.{arith}
use borrow.Author.Rules.{rules}
use Rattle.block_rows.proofs.parts.weight_row.Goals as goal

pub slice_bounds-result-end : goal.slice_bounds-result-end
slice_bounds-result-end c =
    let f =
    edge-part-fits c.args.b.now c.requires c.vertex_count-v.result c.vertex_count-v.ensures.0 c.edge_count-n.result
    c.edge_count-n.ensures.0 in
    search rules

pub returns : goal.returns
returns c =
    let n = c.edge_count-n.result in
    let a = 16 + 4 * c.vertex_count-v.result + 10 * n in
    let z : a + n - a ≡ n = omega arith in
    rw z
    (edge-part c.args.b.now c.requires c.vertex_count-v.result
    c.vertex_count-v.ensures.0 n c.edge_count-n.ensures.0)

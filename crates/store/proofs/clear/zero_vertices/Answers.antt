use native.Mathlib.Omega.{arith}
use Prim.Native.Nat.{◌+◌}
use Rattle.graph.specs.laws.Table.{vertex-row}
use Rattle.store.specs.laws.Stretch.{stretch-fits, rowed-zeros}
use Rattle.store.proofs.clear.zero_vertices.Goals as goal

pub slice_bounds-fill-end : goal.slice_bounds-fill-end
slice_bounds-fill-end c =
    let r = vertex-row c.args.b.now c.args.k c.requires.0 c.requires.1 in
    stretch-fits c.args.b.now (1 + c.args.k) 0 _ _ c.requires.0 c.vertex_place-a.ensures (omega (arith, r, c.vertex_count-m.ensures.0))

pub returns : goal.returns
returns c =
    let r = vertex-row c.args.b.now c.args.k c.requires.0 c.requires.1 in
    rowed-zeros c.args.b.now (1 + c.args.k) c.vertex_count-m.result _ _ _ c.requires.0 c.vertex_place-a.ensures
    (omega (arith, r, c.vertex_count-m.ensures.0)) (omega arith) (c.fill.ensures.after (λ y h. h))

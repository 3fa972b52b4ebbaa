use native.Mathlib.Omega.{arith}
use Prim.Native.Nat.{◌+◌}
use Rattle.graph.specs.laws.Table.{side-row}
use Rattle.store.specs.laws.Stretch.{stretch-fits, rowed-zeros}
use Rattle.store.proofs.clear.zero_sides.Goals as goal

pub slice_bounds-fill-end : goal.slice_bounds-fill-end
slice_bounds-fill-end c =
    let r = side-row c.args.b.now c.args.k c.requires.0 c.requires.1 in
    stretch-fits c.args.b.now (5 + c.args.k) 0 _ _ c.requires.0 c.side_place-a.ensures (omega (arith, r, c.side_count-m.ensures.0))

pub returns : goal.returns
returns c =
    let r = side-row c.args.b.now c.args.k c.requires.0 c.requires.1 in
    rowed-zeros c.args.b.now (5 + c.args.k) c.side_count-m.result _ _ _ c.requires.0 c.side_place-a.ensures
    (omega (arith, r, c.side_count-m.ensures.0)) (omega arith) (c.fill.ensures.after (λ y h. h))

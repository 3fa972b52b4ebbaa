use native.Mathlib.Omega.{arith}
use Rattle.shrink_pass.specs.laws.Release.{does-free-vertex, does-part-vertex}
use Rattle.shrink_pass.proofs.release.part_vertex.Goals as goal

pub part_sides-requires : goal.part_sides-requires
part_sides-requires c =
    let q =
    does-free-vertex c.requires.0 _ c.free.ensures in
    (q.working, omega arith, omega arith)

pub returns : goal.returns
returns c =
    does-part-vertex c.requires.0 _ _ _
    c.free.ensures (λ k. c.part_sides.ensures)

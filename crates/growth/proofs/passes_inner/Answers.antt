use native.Mathlib.Omega.{arith}
use Rattle.growth.proofs.passes_inner.Goals as goal

pub overflow_add-grown-2 : goal.overflow_add-grown-2
overflow_add-grown-2 c =
    let g = c.requires.1.growths in
    omega (arith, g c.args.s, g c.opposite-o.result, c.growth.ensures.0, c.growth-2.ensures.0)

pub returns : goal.returns
returns c = cc

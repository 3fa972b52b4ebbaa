use native.Mathlib.Omega.{arith}
use Rattle.growth.proofs.laws.Moving.{top-still}
use Rattle.growth.proofs.put_top.Goals as goal

pub set_amount-requires : goal.set_amount-requires
set_amount-requires c =
    let p = c.requires.2 in
    (c.requires.0, c.requires.1, omega (arith, p.stack, c.if-x-ne0.true), p.small c.if-x-ne0.true)

pub returns-else-x-ne0 : goal.returns-else-x-ne0
returns-else-x-ne0 c = top-still _ c.args.n c.args.x c.requires.0 c.requires.2 c.if-x-ne0.false

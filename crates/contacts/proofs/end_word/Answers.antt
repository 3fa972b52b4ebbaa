use mir.Syntax.{w64}
use mir.Facts.{to_z_pos}
use native.Mathlib.Omega.{arith}
use mathlib.Core.Path.{refl}
use borrow.Author.Tests.{ne_eqb}
use Rattle.contacts.proofs.end_word.Goals as goal

pub returns-then-p-eq0 : goal.returns-then-p-eq0
returns-then-p-eq0 c = rw (← c.side_node-p.ensures.0, c.if-p-eq0.true) refl

pub returns-else-p-eq0 : goal.returns-else-p-eq0
returns-else-p-eq0 c =
    let p = c.side_node-p in
    rw (← p.ensures.0, ne_eqb p.result 0 c.if-p-eq0.false) (to_z_pos w64 (omega (arith, p.ensures.1)))

use native.Mathlib.Omega.{arith}
use mathlib.Core.Path.{sym, ◌∙◌, ap, refl}
use borrow.Author.Tests.{eq-eqb, ne_eqb}
use Rattle.update_length.specs.Scan.{look_shrink, room}
use Rattle.update_length.specs.inner.Length.{look_by, room_in}
use Rattle.update_length.specs.laws.Length.{length_above}
use Rattle.update_length.proofs.look.look_shrink.Goals as goal

pub returns-then-g-eq0 : goal.returns-then-g-eq0
unfolding look_shrink look_by room_in
returns-then-g-eq0 c =
    rw (eq-eqb _ _ (sym c.growth-g.ensures.0 ∙ c.if-g-eq0.true)) (record { what = refl; fits = omega arith })

pub returns-else-g-eq0 : goal.returns-else-g-eq0
unfolding look_shrink look_by room_in
returns-else-g-eq0 c =
    let g = c.growth-g in
    rw (← g.ensures.0, ne_eqb g.result 0 c.if-g-eq0.false)
    (record
    { what = ap room (length_above g.result); fits = omega (arith, g.ensures.0, c.requires.1.growths c.args.s) })

use native.Mathlib.Omega.{arith}
use mathlib.Core.Path.{sym, ◌∙◌, refl}
use borrow.Author.Tests.{eq-eqb, ne_eqb}
use Rattle.update_length.specs.Scan.{look_held}
use Rattle.update_length.specs.inner.Length.{look_by, room_in}
use Rattle.update_length.proofs.look.look_held.Goals as goal

pub returns-then-x-eq-SHRINK : goal.returns-then-x-eq-SHRINK
unfolding look_held look_by room_in
returns-then-x-eq-SHRINK c =
    rw (eq-eqb _ _ (sym c.grow_state-x.ensures.0 ∙ c.if-x-eq-SHRINK.true)) (record { what = refl; fits = omega arith })

pub returns-then-x-eq-GROW : goal.returns-then-x-eq-GROW
unfolding look_held
returns-then-x-eq-GROW c =
    let g = c.grow_state-x in
    rw (
      ← g.ensures.0,
      ne_eqb _ _ c.if-x-eq-SHRINK.false,
      eq-eqb _ _ c.if-x-eq-GROW.true,
      ← c.gap-g.ensures.0,
      ← c.half.ensures.0,
    )
    c.look_peer.ensures

pub returns-else-x-eq-GROW : goal.returns-else-x-eq-GROW
unfolding look_held
returns-else-x-eq-GROW c =
    let g = c.grow_state-x in
    rw (
      ← g.ensures.0,
      ne_eqb _ _ c.if-x-eq-SHRINK.false,
      ne_eqb _ _ c.if-x-eq-GROW.false,
      ← c.gap-g.ensures.0,
    )
    c.look_peer-else-x-eq-GROW.ensures

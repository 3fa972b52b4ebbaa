use native.Mathlib.Omega.{arith}
use mathlib.Core.Path.{◌≡◌, refl}
use borrow.Author.Tests.{eq-eqb, ne_eqb}
use Rattle.graph.specs.State.{virtual_at, end_at, opposite}
use Rattle.graph.specs.Layout.{state_of}
use Rattle.update_length.specs.Scan.{look_free}
use Rattle.update_length.specs.inner.Length.{look_by, room_in}
use Rattle.update_length.specs.laws.Length.{length-zero, length-nonzero}
use Rattle.update_length.proofs.look.look_free.Goals as goal

pub returns-then-virtual_flag-eq0 : goal.returns-then-virtual_flag-eq0
unfolding look_free look_by room_in
returns-then-virtual_flag-eq0 c =
    let q : c.virtual_flag.result
    ≡ virtual_at (state_of c.args.b.now) (end_at (state_of c.args.b.now) (opposite c.args.s)) =
    cc in
    rw (length-zero _ c.if-l-eq-ZERO.true, ← q, eq-eqb _ _ c.if-virtual_flag-eq0.true)
    (record { what = refl; fits = omega arith })

pub returns-else-virtual_flag-eq0 : goal.returns-else-virtual_flag-eq0
unfolding look_free look_by room_in
returns-else-virtual_flag-eq0 c =
    let q : c.virtual_flag.result
    ≡ virtual_at (state_of c.args.b.now) (end_at (state_of c.args.b.now) (opposite c.args.s)) =
    cc in
    rw (
      length-zero _ c.if-l-eq-ZERO.true,
      ← q,
      ne_eqb _ _ c.if-virtual_flag-eq0.false,
    )
    (record { what = cc; fits = omega arith })

pub returns-else-l-eq-ZERO : goal.returns-else-l-eq-ZERO
unfolding look_free look_by room_in
returns-else-l-eq-ZERO c = rw (length-nonzero _ c.if-l-eq-ZERO.false) (record { what = refl; fits = omega arith })

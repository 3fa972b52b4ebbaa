use native.Mathlib.Omega.{arith}
use mathlib.Core.Path.{◌≡◌, refl}
use borrow.Author.Tests.{eq-eqb, ne_eqb}
use Rattle.graph.specs.State.{holder_at, opposite}
use Rattle.graph.specs.Layout.{state_of}
use Rattle.update_length.specs.Scan.{look_grow}
use Rattle.update_length.specs.inner.Length.{look_by, room_in}
use Rattle.update_length.proofs.look.look_grow.Goals as goal

pub look_held-requires : goal.look_held-requires
look_held-requires c =
    let q : c.holder-h.result ≡ holder_at (state_of c.args.b.now) (opposite c.args.s) = cc in (
      c.requires.0,
      c.requires.1,
      c.requires.2,
      omega
          (arith, q, c.if-h-eq0.false, c.requires.1.holders (opposite c.args.s)),
    )

pub returns-then-h-n : goal.returns-then-h-n
unfolding look_grow look_by room_in
returns-then-h-n c =
    let q : c.holder-h.result ≡ holder_at (state_of c.args.b.now) (opposite c.args.s) = cc in
    rw (← q, eq-eqb _ _ c.if-h-n.true) (record { what = refl; fits = omega arith })

pub returns-then-h-eq0 : goal.returns-then-h-eq0
unfolding look_grow
returns-then-h-eq0 c =
    let q : c.holder-h.result
    ≡ holder_at (state_of c.args.b.now) (opposite c.args.s) =
    cc in
    rw (
      ← q,
      ne_eqb _ _ c.if-h-n.false,
      eq-eqb _ _ c.if-h-eq0.true,
      ← c.gap-g.ensures.0,
    )
    c.look_free.ensures

pub returns-else-h-eq0 : goal.returns-else-h-eq0
unfolding look_grow
returns-else-h-eq0 c =
    let q : c.holder-h.result ≡ holder_at (state_of c.args.b.now) (opposite c.args.s) = cc in
    rw (← q, ne_eqb _ _ c.if-h-n.false, ne_eqb _ _ c.if-h-eq0.false) c.look_held.ensures

use native.Mathlib.Omega.{arith}
use Prim.Native.Nat.{◌<◌}
use lib.ListN.{length}
use Rattle.graph.specs.State.{boundary_of}
use Rattle.graph.specs.Layout.{state_of}
use Rattle.growth.proofs.laws.Moving.{same-boundary, same-sides, next-movable, next_small, next-moved, none-moved}
use Rattle.growth.proofs.move_sides.Goals as goal

pub loop-i-init : goal.loop-i-init
loop-i-init c = none-moved c.args.b.now c.args.n c.args.d c.args.l c.requires.0

pub boundary_side-s-requires : goal.boundary_side-s-requires
boundary_side-s-requires c =
    let q = c.loop-i in
    let p = q.invariant in (
      p.formed.laid,
      p.formed.listed,
      rw p.nodes c.requires.1,
      same-sides c.args.b.now q.b c.args.n c.args.d c.args.l q.i p c.requires.2.sides,
      rw (same-boundary c.args.b.now q.b c.args.n c.args.d c.args.l q.i p)
          (omega (arith, c.boundary_len-m.ensures.0, c.loop-i-test.true)),
    )

pub move_side-requires : goal.move_side-requires
move_side-requires c =
    let q = c.loop-i in
    let p = q.invariant in
    let k : q.i < length (boundary_of (state_of c.args.b.now) c.args.n) =
    omega (
      arith,
      c.boundary_len-m.ensures.0,
      c.loop-i-test.true,
    ) in
    let e = c.boundary_side-s.ensures.0 in (
      p.formed,
      c.boundary_side-s.ensures.1,
      next-movable c.args.b.now q.b c.args.n c.args.d c.args.l q.i p c.requires.2 k _ e,
      next_small c.args.b.now q.b c.args.n c.args.d c.args.l q.i p c.requires.2 k _ e,
    )

pub loop-i-preserved : goal.loop-i-preserved
loop-i-preserved c =
    let q = c.loop-i in
    let p = q.invariant in
    let k : q.i < length (boundary_of (state_of c.args.b.now) c.args.n) =
    omega (
      arith,
      c.boundary_len-m.ensures.0,
      c.loop-i-test.true,
    ) in (
    next-moved c.args.b.now q.b c.args.n c.args.d c.args.l q.i p c.requires.2 k _ _
    c.boundary_side-s.ensures.0 c.move_side.ensures
    )

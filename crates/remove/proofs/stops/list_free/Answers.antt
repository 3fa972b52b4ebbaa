use Rattle.graph.specs.laws.Members.{clash}
use mathlib.Core.Bool.{true, false}
use mathlib.Core.Path.{refl, ◌≡◌, sym, ◌∙◌}
use Rattle.remove.specs.laws.Stops.{met-list, met-more, met-fails}
use Rattle.remove.specs.inner.Stops.{entries_before}
use Rattle.graph.specs.Layout.{state_of}
use lib.ListN.{length-set}
use native.Mathlib.Omega.{arith}
use Prim.Native.Nat.{◌+◌}
use Rattle.remove.proofs.stops.list_free.Goals as goal

pub loop-i-init : goal.loop-i-init
loop-i-init c =
    let d = state_of c.args.b.now in
    let z : entries_before d c.args.n c.args.m + 0 ≡ entries_before d c.args.n c.args.m = omega arith in
    (rw z c.requires.6, refl)

pub boundary_side-s-requires : goal.boundary_side-s-requires
boundary_side-s-requires c =
    (c.requires.0.laid, c.requires.0.listed, c.requires.2, c.requires.1 c.args.m c.requires.2, omega arith)

pub loop-i-preserved : goal.loop-i-preserved
loop-i-preserved c = (
  met-more (state_of c.args.b.now)
      c.args.n
      c.args.m
      c.args.own.now
      c.loop-i.met
      c.requires.3
      c.requires.2
      c.loop-i.i c.boundary_side-s.result
      c.loop-i.invariant.0 (omega arith)
      c.boundary_side-s.ensures.0
      (omega (
        arith,
        c.requires.5,
        c.loop-i.invariant.1,
      ))
      (sym c.is_fresh.ensures ∙ c.if-not-is_fresh.false),
  simp (length-set) c.loop-i.invariant.1,
)

pub returns-then-not-is_fresh : goal.returns-then-not-is_fresh
returns-then-not-is_fresh c = (
  λ e. clash false e refl,
  λ e. met-fails (state_of c.args.b.now)
      c.args.n
      c.args.m
      c.args.own.now
      c.loop-i.met
      c.requires.3
      c.requires.2
      c.loop-i.i c.boundary_side-s.result
      c.loop-i.invariant.0 (omega arith)
      c.boundary_side-s.ensures.0
      (omega (
        arith,
        c.requires.5,
        c.loop-i.invariant.1,
      ))
      (sym c.is_fresh.ensures ∙ c.if-not-is_fresh.true),
)

pub returns : goal.returns
returns c = (
  λ e. met-list (state_of c.args.b.now)
      c.args.n c.args.m
      c.args.own.now c.loop-i.met
      c.requires.3 c.requires.2
      c.loop-i.i (omega arith) c.loop-i.invariant.0,
  λ e. clash true refl e,
)

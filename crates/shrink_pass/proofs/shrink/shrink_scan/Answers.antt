use native.Mathlib.Omega.{arith}
use Prim.Native.Nat.{ℕ}
use mathlib.Core.Path.{ap, ◌∙◌}
use mathlib.Core.List.{List}
use lib.ListN.{get_or}
use Rattle.graph.specs.State.{boundary_of}
use Rattle.graph.specs.Layout.{state_of}
use Rattle.graph.specs.laws.State.{kept-boundary}
use Rattle.shrink_pass.specs.laws.Shrinking.{does-start, does-more, does-all}
use Rattle.shrink_pass.specs.laws.Shrink.{boundary-fits, scan-room, scan-free, shrinkable-kept}
use Rattle.shrink_pass.proofs.shrink.shrink_scan.Goals as goal

pub loop-i-init : goal.loop-i-init
loop-i-init c =
    (does-start _ (boundary_of (state_of c.args.b.now) c.args.n) c.requires.0, omega arith)

pub boundary_side-s-requires : goal.boundary_side-s-requires
boundary_side-s-requires c = let q = c.loop-i.invariant.0 in
    let f = q.working.formed in (
      f.laid,
      f.listed,
      omega arith,
      (shrinkable-kept _ q.keeps c.requires.2).sides,
      rw
          (kept-boundary q.keeps c.args.n) (omega arith),
    )

pub shrink_side-q-requires : goal.shrink_side-q-requires
shrink_side-q-requires c = let q = c.loop-i.invariant.0 in
    let r = scan-room (boundary_of (state_of c.args.b.now) c.args.n) c.loop-i.i (omega arith) c.requires.0 q in
    let f = boundary-fits _ _ c.requires.2 in
    (q.working, omega arith, omega arith, c.loop-i.invariant.1)

pub loop-i-preserved : goal.loop-i-preserved
loop-i-preserved c = let q = c.loop-i.invariant.0 in
    let v = c.boundary_side-s in
    let h = c.loop-i-test.true in
    let k = c.boundary_len-l.ensures.0 in
    let x = c.shrink_side-q.ensures in (
      does-more _ (boundary_of (state_of c.args.b.now) c.args.n) _ _ (omega (arith, h, k))
          (v.ensures.0 ∙ ap (λ (l : List ℕ). get_or l c.loop-i.i 0) (kept-boundary q.keeps c.args.n)) q x,
      scan-free v.result q.working x c.loop-i.invariant.1,
    )

pub returns : goal.returns
returns c = does-all _ (boundary_of (state_of c.args.b.now) c.args.n) c.loop-i.i (omega arith) c.loop-i.invariant.0

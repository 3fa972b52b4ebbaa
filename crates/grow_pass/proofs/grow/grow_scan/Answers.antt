use native.Mathlib.Omega.{arith}
use Prim.Native.Nat.{ℕ}
use mathlib.Core.Path.{ap, ◌∙◌}
use mathlib.Core.List.{List}
use lib.ListN.{get_or}
use Rattle.graph.specs.State.{boundary_of}
use Rattle.graph.specs.Layout.{state_of}
use Rattle.pass.specs.inner.Once.{grow_step_once}
use Rattle.graph.specs.laws.State.{kept-boundary}
use Rattle.grow_pass.specs.laws.Growing.{loop-none, loop-more, loop-all}
use Rattle.grow_pass.specs.laws.Grow.{start-working, scan-sides, scan-all, start_fits, step_count, step_fits, keeping-grow-step}
use Rattle.grow_pass.proofs.grow.grow_scan.Goals as goal

pub loop-i-init : goal.loop-i-init
loop-i-init c = (
  loop-none (grow_step_once c.args.n) (boundary_of (state_of c.args.b.now) c.args.n)
      (start-working c.requires.0 c.requires.1 c.requires.2 c.requires.3),
  omega arith,
  start_fits c.requires.0,
)

pub boundary_side-s-requires : goal.boundary_side-s-requires
boundary_side-s-requires c = let q = c.loop-i.invariant.0 in
    let f = q.worked.working.formed in (
      f.laid,
      f.listed,
      q.worked.working.node,
      scan-sides q c.requires.4,
      rw (kept-boundary q.kept c.args.n)
          (omega arith),
    )

pub loop-i-preserved : goal.loop-i-preserved
loop-i-preserved c = let q = c.loop-i.invariant in
    let x = c.grow_step-q.ensures in
    let v = c.boundary_side-s in (
      loop-more q.0 v.result (keeping-grow-step c.args.n)
          (omega (
            arith,
            c.loop-i-test.true,
            c.boundary_len-l.ensures.0,
          ))
          (v.ensures.0 ∙ ap (λ (l : List ℕ). get_or l c.loop-i.i 0) (kept-boundary q.0.kept c.args.n)) x,
      omega (arith, step_count q.0.worked.working v.result x, q.1),
      step_fits q.0.worked.working v.result (omega arith) x q.2,
    )

pub returns : goal.returns
returns c = scan-all c.args.t.now (loop-all c.loop-i.invariant.0 (omega arith))

use Prim.Native.Nat.{ℕ}
use mathlib.Core.List.{List}
use lib.ListN.{get_or}
use Rattle.graph.specs.laws.State.{kept-sides}
use native.Mathlib.Omega.{arith}
use mathlib.Core.Path.{ap, ◌∙◌}
use Rattle.graph.specs.State.{sides_at}
use Rattle.graph.specs.Layout.{state_of}
use Rattle.pass.specs.Grow.{take_side}
use Rattle.grow_pass.specs.laws.Growing.{loop-none, loop-more}
use Rattle.grow_pass.specs.laws.Take.{keeping-take-side, own-taken}
use Rattle.grow_pass.proofs.take.take_sides.Goals as goal

pub loop-i-init : goal.loop-i-init
loop-i-init c = (
  loop-none (take_side c.args.n c.args.g) (sides_at (state_of c.args.b.now) c.args.v) c.requires.0,
  c.requires.1,
)

pub loop-i-preserved : goal.loop-i-preserved
loop-i-preserved c = let a = c.args in
    let q = c.loop-i.invariant in
    let x = c.take_side-q.ensures in
    let v = c.vertex_side-s in (
      loop-more q.0 v.result (keeping-take-side a.n a.g) (omega arith)
          (v.ensures.0 ∙ ap (λ (l : List ℕ). get_or l c.loop-i.i 0) (kept-sides q.0.kept a.v)) x,
      own-taken q.0.worked.working a.g v.result q.1 (omega arith) x,
    )

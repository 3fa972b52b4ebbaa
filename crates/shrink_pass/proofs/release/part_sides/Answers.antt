use native.Mathlib.Omega.{arith}
use mathlib.Core.Path.{ap, ◌∙◌}
use lib.ListN.{get_or}
use Rattle.graph.specs.State.{sides_at}
use Rattle.graph.specs.Layout.{state_of}
use Rattle.shrink_pass.specs.laws.Shrinking.{does-start, does-more}
use Rattle.shrink_pass.specs.laws.Release.{same-sides}
use Rattle.shrink_pass.proofs.release.part_sides.Goals as goal

pub loop-i-init : goal.loop-i-init
loop-i-init c = (does-start _ (sides_at (state_of c.args.b.now) c.args.v) c.requires.0)

pub loop-i-preserved : goal.loop-i-preserved
loop-i-preserved c =
    let q = c.loop-i.invariant in (
    does-more _
    (sides_at
    (state_of c.args.b.now)
    c.args.v)
    _ _
    (omega arith)
    (c.vertex_side-s.ensures.0
    ∙ ap (λ l. get_or l c.loop-i.i 0)
    (same-sides c.args.v
    q.keeps))
    q
    c.part_side-q.ensures
    )

use native.Mathlib.Omega.{arith}
use Rattle.graph.specs.State.{overgrown_of}
use Rattle.graph.specs.Layout.{state_of}
use Rattle.pass.specs.Shrink.{empty_tops}
use Rattle.shrink_pass.specs.laws.Shrinking.{does-start, does-more, does-all}
use Rattle.shrink_pass.specs.laws.Top.{top_below, top_read, top-vertex}
use Rattle.shrink_pass.proofs.tops.drop_tops.Goals as goal

pub loop-i-init : goal.loop-i-init
loop-i-init c = (does-start _ (empty_tops (overgrown_of (state_of c.args.b.now) c.args.n)) c.requires.0)

pub overgrown_vertex-v-requires : goal.overgrown_vertex-v-requires
overgrown_vertex-v-requires c =
    let q = c.loop-i.invariant in (
      q.working.formed.laid,
      q.working.formed.listed,
      omega arith,
      top_below c.args.n c.loop-i.i (omega arith) q,
    )

pub drop_vertex-q-requires : goal.drop_vertex-q-requires
drop_vertex-q-requires c =
    let q = c.loop-i.invariant in (
      q.working,
      omega arith,
      top-vertex c.args.n
          c.loop-i.i (omega arith) q
          c.requires.2 _ _ c.overgrown_vertex-v.ensures.0,
    )

pub loop-i-preserved : goal.loop-i-preserved
loop-i-preserved c =
    let q = c.loop-i.invariant in (
    does-more _
    (empty_tops
    (overgrown_of (state_of c.args.b.now)
    c.args.n))
    _ _
    (omega arith)
    (top_read c.args.n
    c.loop-i.i (omega arith) q _ _
    c.overgrown_vertex-v.ensures.0)
    q
    c.drop_vertex-q.ensures
    )

pub returns : goal.returns
returns c =
    does-all _ (empty_tops (overgrown_of (state_of c.args.b.now) c.args.n))
    c.loop-i.i (omega arith) c.loop-i.invariant

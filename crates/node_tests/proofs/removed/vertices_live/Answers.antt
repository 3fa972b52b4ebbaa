use Rattle.graph.specs.laws.Shape.{sound-vertex, vertex-facts}
use Rattle.graph.specs.Sound.{live_or_none}
use Rattle.graph.specs.State.{vertex_count, vertex_holder_at}
use Rattle.graph.specs.laws.Scan.{all_more, all-fails}
use Rattle.graph.specs.Layout.{state_of}
use Rattle.graph.specs.Basic.{all_below}
use mathlib.Core.Bool.{false}
use mathlib.Core.Path.{◌≡◌, sym}
use native.Mathlib.Omega.{arith}
use borrow.Author.Rules.{rules}
use Rattle.node_tests.proofs.removed.vertices_live.Goals as goal

pub loop-v-init : goal.loop-v-init
unfolding all_below
loop-v-init c = search rules

pub live_or_none-requires : goal.live_or_none-requires
live_or_none-requires c =
    let d = state_of c.args.b.now in
    let i = c.loop-v.v in
    (c.requires.0, rw c.holder.ensures.0 (vertex-facts d i (sound-vertex d c.requires.1 i (omega arith))).vertex_holder)

pub loop-v-preserved : goal.loop-v-preserved
loop-v-preserved c = (all_more _ _ c.loop-v.invariant (cc))

pub returns-then-not-live_or_none : goal.returns-then-not-live_or_none
returns-then-not-live_or_none c =
    let b = c.args.b.now in
    let q : live_or_none (state_of b) (vertex_holder_at (state_of b) c.loop-v.v) ≡ false = cc in
    sym
    (all-fails (λ v. live_or_none (state_of b) (vertex_holder_at (state_of b) v)) (vertex_count (state_of b))
    c.loop-v.v (omega arith) q)

pub returns : goal.returns
returns c =
    let b = c.args.b.now in
    let z : c.loop-v.v ≡ vertex_count (state_of b) = omega arith in
    rw (← z) (sym c.loop-v.invariant)

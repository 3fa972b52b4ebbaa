use Rattle.graph.specs.laws.Shape.{sound-side, side-facts}
use Rattle.graph.specs.Sound.{live_or_none}
use Rattle.graph.specs.State.{side_count, holder_at}
use Rattle.graph.specs.laws.Scan.{all_more, all-fails}
use Rattle.graph.specs.Layout.{state_of}
use Rattle.graph.specs.Basic.{all_below}
use mathlib.Core.Bool.{false}
use mathlib.Core.Path.{◌≡◌, sym}
use native.Mathlib.Omega.{arith}
use borrow.Author.Rules.{rules}
use Rattle.node_tests.proofs.removed.sides_live.Goals as goal

pub loop-s-init : goal.loop-s-init
unfolding all_below
loop-s-init c = search rules

pub live_or_none-requires : goal.live_or_none-requires
live_or_none-requires c =
    let d = state_of c.args.b.now in
    let i = c.loop-s.s in
    (c.requires.0, rw c.holder.ensures.0 (side-facts d i (sound-side d c.requires.1 i (omega arith))).holder)

pub loop-s-preserved : goal.loop-s-preserved
loop-s-preserved c = (all_more _ _ c.loop-s.invariant (cc))

pub returns-then-not-live_or_none : goal.returns-then-not-live_or_none
returns-then-not-live_or_none c =
    let b = c.args.b.now in
    let q : live_or_none (state_of b) (holder_at (state_of b) c.loop-s.s) ≡ false = cc in
    sym
    (all-fails (λ s. live_or_none (state_of b) (holder_at (state_of b) s)) (side_count (state_of b))
    c.loop-s.s (omega arith) q)

pub returns : goal.returns
returns c =
    let b = c.args.b.now in
    let z : c.loop-s.s ≡ side_count (state_of b) = omega arith in
    rw (← z) (sym c.loop-s.invariant)

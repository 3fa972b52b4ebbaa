use Rattle.graph.specs.laws.Scan.{all_more, all-fails}
use Rattle.graph.specs.Sound.{side_sound}
use Rattle.graph.specs.Layout.{state_of}
use Rattle.graph.specs.State.{side_count}
use Rattle.graph.specs.Basic.{all_below}
use mathlib.Core.Bool.{false}
use mathlib.Core.Path.{◌≡◌, sym}
use native.Mathlib.Omega.{arith}
use borrow.Author.Rules.{rules}
use Rattle.graph_tests.proofs.sides.sides_in.Goals as goal

pub loop-s-init : goal.loop-s-init
unfolding all_below
loop-s-init c = search rules

pub loop-s-preserved : goal.loop-s-preserved
loop-s-preserved c = (all_more _ _ c.loop-s.invariant (cc))

pub returns-then-not-side_sound : goal.returns-then-not-side_sound
returns-then-not-side_sound c = let b = c.args.b.now in
    let q : side_sound (state_of b) c.loop-s.s ≡ false = cc in
    sym (all-fails (side_sound (state_of b)) (side_count (state_of b)) c.loop-s.s (omega arith) q)

use Rattle.graph.specs.inner.Scans.{live}
use Rattle.graph.specs.State.{node_count}
use Rattle.graph.specs.laws.Scan.{all_more, all-fails}
use Rattle.graph.specs.Layout.{state_of}
use Rattle.graph.specs.Basic.{all_below}
use mathlib.Core.Bool.{false}
use mathlib.Core.Path.{◌≡◌, sym}
use native.Mathlib.Omega.{arith}
use borrow.Author.Rules.{rules}
use Rattle.node_tests.proofs.removed.none_removed.Goals as goal

pub loop-n-init : goal.loop-n-init
unfolding all_below
loop-n-init c = search rules

pub returns-then-is_removed : goal.returns-then-is_removed
unfolding live
returns-then-is_removed c =
    let b = c.args.b.now in
    let q : live (state_of b) c.loop-n.n ≡ false =
    rw (← c.is_removed.ensures, c.if-is_removed.true) in
    sym (all-fails (live (state_of b)) (node_count (state_of b)) c.loop-n.n (omega arith) q)

pub loop-n-preserved : goal.loop-n-preserved
unfolding live
loop-n-preserved c = (all_more _ _ c.loop-n.invariant (rw (← c.is_removed.ensures, c.if-is_removed.false)))

pub returns : goal.returns
returns c =
    let b = c.args.b.now in
    let z : c.loop-n.n ≡ node_count (state_of b) = omega arith in
    rw (← z) (sym c.loop-n.invariant)

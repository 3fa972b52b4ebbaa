use Rattle.graph.specs.Sound.{node_live}
use Rattle.graph.specs.State.{node_count}
use Rattle.graph.specs.laws.Scan.{all_more, all-fails}
use Rattle.graph.specs.Layout.{state_of}
use Rattle.graph.specs.Basic.{all_below}
use mathlib.Core.Bool.{false}
use mathlib.Core.Path.{◌≡◌, sym}
use native.Mathlib.Omega.{arith}
use borrow.Author.Rules.{rules}
use Rattle.node_tests.proofs.removed.nodes_live.Goals as goal

pub loop-n-init : goal.loop-n-init
unfolding all_below
loop-n-init c = search rules

pub loop-n-preserved : goal.loop-n-preserved
loop-n-preserved c = (all_more _ _ c.loop-n.invariant (cc))

pub returns-then-not-node_live : goal.returns-then-not-node_live
returns-then-not-node_live c =
    let b = c.args.b.now in
    let q : node_live (state_of b) c.loop-n.n ≡ false = cc in
    sym (all-fails (node_live (state_of b)) (node_count (state_of b)) c.loop-n.n (omega arith) q)

pub returns : goal.returns
returns c =
    let b = c.args.b.now in
    let z : c.loop-n.n ≡ node_count (state_of b) = omega arith in
    rw (← z) (sym c.loop-n.invariant)

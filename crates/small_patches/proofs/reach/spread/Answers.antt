use Rattle.small_patches.proofs.laws.Loops.{over_none, over-more}
use Rattle.small_patches.specs.Reach.{times}
use Rattle.graph.specs.Opening.{edges_from}
use mathlib.Core.Path.{◌≡◌}
use borrow.Author.Rules.{rules}
use Rattle.small_patches.proofs.reach.spread.Goals as goal

pub loop-n-init : goal.loop-n-init
loop-n-init c = (over_none _ _, search rules)

pub loop-n-preserved : goal.loop-n-preserved
loop-n-preserved c =
    let a = c.args in
    let more = over-more (edges_from a.edges.now) c.loop-n._n a.m.now in
    (rw (c.spread_once.ensures, c.loop-n.invariant.0) more, search rules)

pub returns : goal.returns
returns c = let e : c.loop-n._n ≡ times = search rules in rw e at c.loop-n.invariant.0

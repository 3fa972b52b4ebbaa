use borrow.Author.Rules.{rules}
use Rattle.graph.specs.Layout.{state_of}
use Rattle.pass.proofs.laws.Preparing.{Preparing, remaining, preparing-none, preparing-falls, preparing-more, preparing-all}
use Rattle.prepare.proofs.prepare_dual_node_growth.Goals as goal

pub loop-more-init : goal.loop-more-init
loop-more-init c = preparing-none _ _ _ _ c.requires.0 c.requires.1

pub loop-more-smaller : goal.loop-more-smaller
loop-more-smaller c =
    rw c.loop-more-test.true
    (preparing-falls (rw c.loop-more-test.true at c.loop-more.invariant)
    c.prepare_dual_node_growth_single-more.ensures)

pub loop-more-preserved : goal.loop-more-preserved
loop-more-preserved c =
    preparing-more (rw c.loop-more-test.true at c.loop-more.invariant)
    c.prepare_dual_node_growth_single-more.ensures

pub returns : goal.returns
returns c = let p = c.loop-more.invariant in (preparing-all (rw c.loop-more-test.false at p), p.most, p.able)

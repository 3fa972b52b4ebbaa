use borrow.Author.Rules.{rules}
use native.Mathlib.Omega.{arith}
use Rattle.pass.proofs.laws.Preparing.{preparing-falls, preparing-all}
use Rattle.prepare_tested.specs.laws.Testing.{testing-none, testing-more, testing-all}
use Rattle.prepare_tested.proofs.prepare_tested.Goals as goal

pub loop-more-init : goal.loop-more-init
loop-more-init c = testing-none _ _ _ c.requires.0 c.requires.1

pub pass_own-fine-requires : goal.pass_own-fine-requires
pass_own-fine-requires c = let p = c.loop-more.invariant.prepares in (p.ready.formed, p.ready.node, p.able.shrinks (λ z. omega arith))

pub prepare_dual_node_growth_single-more-requires : goal.prepare_dual_node_growth_single-more-requires
prepare_dual_node_growth_single-more-requires c = let p = c.loop-more.invariant.prepares in (p.ready, p.able)

pub overflow_add-passes : goal.overflow_add-passes
overflow_add-passes c = let p = c.loop-more.invariant.prepares in search (rules, p.most)

pub loop-more-smaller : goal.loop-more-smaller
loop-more-smaller c =
    rw c.loop-more-test.true
    (preparing-falls (rw c.loop-more-test.true at c.loop-more.invariant.prepares)
    c.prepare_dual_node_growth_single-more.ensures)

pub loop-more-preserved : goal.loop-more-preserved
loop-more-preserved c =
    testing-more (rw c.loop-more-test.true at c.loop-more.invariant)
    c.pass_own-fine.ensures
    c.prepare_dual_node_growth_single-more.ensures

pub holds_lists-holds-requires : goal.holds_lists-holds-requires
holds_lists-holds-requires c = let p = c.loop-more.invariant.prepares in (p.ready.formed, p.ready.node, p.able.shrinks (λ z. omega arith))

pub returns : goal.returns
returns c =
    let p = rw c.loop-more-test.false at c.loop-more.invariant in
    (preparing-all p.prepares, p.prepares.most, p.prepares.able, testing-all p c.holds_lists-holds.ensures)

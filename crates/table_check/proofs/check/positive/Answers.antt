use borrow.Author.Rules.{rules}
use borrow.Author.Tests.{tests}
use Rattle.table_check.specs.Tests.{positive_in}
use Prim.Native.Nat.{◌*◌}
use Rattle.graph.specs.laws.Chains.{all_of_range}
use Rattle.table_check.proofs.check.positive.Goals as goal

pub returns : goal.returns
unfolding positive_in
returns c =
    let a = c.args in
    all_of_range (positive_in a.edges.now) (2 * a.e) _ _ _ c.all.ensures.ran (λ x b q k. search (rules, tests))

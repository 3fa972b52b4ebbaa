use borrow.Author.Rules.{rules}
use borrow.Author.Tests.{tests}
use lib.Dec.{leb}
use Rattle.distance.specs.Distance.{unreachable}
use Rattle.table_words.specs.Handed.{distance_of}
use Rattle.table_refuse.specs.Refuse.{distances_in_range}
use Rattle.graph.specs.laws.Chains.{all_of_list}
use Rattle.table_refuse.proofs.refuse.distances_in_range.Goals as goal

pub returns : goal.returns
unfolding distances_in_range unreachable
returns c =
    let a = c.args in
    all_of_list (λ x. leb (distance_of x) unreachable) a.list.now _ _ _ c.all.ensures.ran (cc)
    (λ x b q k. search (rules, tests))

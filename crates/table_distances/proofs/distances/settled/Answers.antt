use borrow.Author.Rules.{rules}
use Rattle.table_distances.specs.Certificate.{settled_at}
use Rattle.table_words.specs.Handed.{distance_in}
use Rattle.graph.specs.laws.Chains.{all_of_range}
use Rattle.table_distances.proofs.distances.settled.Goals as goal

pub returns : goal.returns
returns c =
    let a = c.args in
    all_of_range (settled_at a.m.now (distance_in a.row.now) a.a) a.v _ _ _ c.all.ensures.ran
    (λ x b q k. search rules)

use borrow.Author.Rules.{rules}
use Rattle.table_distances.specs.Certificate.{relaxed_at}
use Rattle.table_words.specs.Handed.{distance_in}
use Rattle.graph.specs.laws.Chains.{all_of_range}
use Prim.Native.Nat.{◌*◌}
use Rattle.table_distances.proofs.distances.relaxed.Goals as goal

pub returns : goal.returns
returns c =
    let a = c.args in
    all_of_range (relaxed_at a.edges.now (distance_in a.row.now)) (2 * a.e) _ _ _ c.all.ensures.ran
    (λ x b q k. search rules)

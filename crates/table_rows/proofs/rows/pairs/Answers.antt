use borrow.Author.Rules.{rules}
use Rattle.table_rows.specs.Row.{defect_pair_at}
use Rattle.table_words.specs.Handed.{distance_in}
use lib.ListN.{length}
use Rattle.graph.specs.laws.Chains.{all_of_range}
use Rattle.table_rows.proofs.rows.pairs.Goals as goal

pub returns : goal.returns
returns c =
    let a = c.args in
    all_of_range (defect_pair_at a.defects.now a.duals.now (distance_in a.row.now) a.i) (length a.defects.now) _ _ _ c.all.ensures.ran
    (λ x b q k. search rules)

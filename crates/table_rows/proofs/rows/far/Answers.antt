use borrow.Author.Rules.{rules}
use Rattle.table_rows.specs.Row.{virtual_pair_at}
use Rattle.table_words.specs.Handed.{distance_in}
use lib.ListN.{length}
use Rattle.graph.specs.laws.Chains.{all_of_range}
use Rattle.table_rows.proofs.rows.far.Goals as goal

pub returns : goal.returns
returns c =
    let a = c.args in
    all_of_range (virtual_pair_at a.virtuals.now (distance_in a.row.now) a.y) (length a.virtuals.now) _ _ _ c.all.ensures.ran
    (λ x b q k. search rules)

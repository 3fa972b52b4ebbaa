use borrow.Author.Rules.{rules}
use Rattle.table_rows.specs.Row.{side_at}
use Rattle.table_words.specs.Handed.{distance_in}
use Prim.Native.Nat.{◌*◌}
use Rattle.graph.specs.laws.Chains.{all_of_range}
use Rattle.table_rows.proofs.rows.shares.Goals as goal

pub returns : goal.returns
returns c =
    let a = c.args in
    all_of_range (side_at a.edges.now a.growths.now (distance_in a.row.now) a.y) (2 * a.e) _ _ _ c.all.ensures.ran
    (λ x b q k. search rules)

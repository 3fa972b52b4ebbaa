use borrow.Author.Rules.{rules}
use Rattle.table_rows.specs.Row.{free_at}
use Prim.Native.Nat.{◌*◌}
use Rattle.graph.specs.laws.Chains.{all_of_range}
use Rattle.table_rows.proofs.rows.free.Goals as goal

pub returns : goal.returns
returns c =
    let a = c.args in
    all_of_range (free_at a.edges.now a.growths.now a.m.now) (2 * a.e) _ _ _ c.all.ensures.ran
    (λ x b q k. search rules)

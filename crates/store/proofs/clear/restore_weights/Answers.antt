use native.Mathlib.Omega.{arith}
use Rattle.std.specs.Prelude.{ℕ, List, refl, get_or}
use Rattle.graph.specs.Layout.{rows_of, row}
use Rattle.graph.specs.Rows.{weight_row, original_row}
use Rattle.graph.specs.laws.Table.{edge_row, original-row}
use Rattle.store.specs.laws.Stretch.{stretch-fits, wrote-copied, rowed-whole}
use Rattle.store.proofs.clear.restore_weights.Goals as goal

pub copy_within-requires-clause-in_bounds : goal.copy_within-requires-clause-in_bounds
copy_within-requires-clause-in_bounds c =
    stretch-fits c.args.b.now original_row 0 _ _ c.requires c.original_place-o.ensures
    (omega (arith, original-row c.args.b.now c.requires, c.edge_count-m.ensures.0))

pub copy_within-requires-clause-dest_in_bounds : goal.copy_within-requires-clause-dest_in_bounds
copy_within-requires-clause-dest_in_bounds c =
    let t =
    stretch-fits c.args.b.now weight_row 0 c.edge_count-m.result _ c.requires c.edge_place-a.ensures
    (omega (arith, edge_row c.args.b.now c.requires, c.edge_count-m.ensures.0)) in
    omega arith

pub returns : goal.returns
returns c =
    let w = edge_row c.args.b.now c.requires in
    let o = original-row c.args.b.now c.requires in
    let from : List ℕ = row (rows_of c.args.b.now) original_row in
    rowed-whole from
    (wrote-copied c.args.b.now weight_row 0 c.edge_count-m.result _ c.requires c.edge_place-a.ensures (omega (arith, c.edge_count-m.ensures.0)) _ original_row 0 _ _
    (λ p. get_or from p 0) c.original_place-o.ensures (omega (arith, c.edge_count-m.ensures.0)) (omega arith) c.copy_within.ensures.len
    c.copy_within.ensures.by_index (λ p x. refl)) (omega arith) (omega (arith, c.edge_count-m.ensures.0)) (λ p x. refl)

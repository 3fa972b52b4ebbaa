use native.Mathlib.Omega.{arith}
use Rattle.std.proofs.Common.{◌%◌, pos}
use Rattle.std.proofs.lemmas.Int.{ints}
use Rattle.std.proofs.lemmas.Grind.{common_steps}
use Rattle.std.proofs.lemmas.List.Edits.{map_over_more}
use Rattle.graph.specs.Word.{to_nat}
use Rattle.graph.specs.Rows.{flags_row}
use Rattle.graph.specs.laws.Table.{vertex-row}
use Rattle.store.specs.laws.Stretch.{stretch-fits, rowed-mapped}
use Rattle.store.proofs.clear.drop_defects.Goals as goal

pub slice_bounds-w-items-end : goal.slice_bounds-w-items-end
slice_bounds-w-items-end c =
    let r = vertex-row c.args.b.now 0 c.requires (omega arith) in
    stretch-fits c.args.b.now flags_row 0 _ _ c.requires c.vertex_place-a.ensures (omega (arith, r, c.vertex_count-m.ensures.0))

pub loop-w-preserved : goal.loop-w-preserved
loop-w-preserved c = grind (arith, common_steps, ints, map_over_more (λ x. pos (to_nat x % 2)), c.to_word.ensures, c.to_nat.ensures)

pub returns : goal.returns
returns c =
    let r = vertex-row c.args.b.now 0 c.requires (omega arith) in
    rowed-mapped c.args.b.now flags_row c.vertex_count-m.result _ _ c.loop-w.w-index _ (λ x. x % 2) c.requires c.vertex_place-a.ensures
    (omega (arith, r, c.vertex_count-m.ensures.0)) (omega arith) c.loop-w-test.false c.loop-w.invariant

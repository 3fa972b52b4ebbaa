use Rattle.table_refuse.specs.laws.Numbers.{numbers-split}
use mathlib.Core.Path.{sym}
use Rattle.table_refuse.proofs.refuse.numbers_right.Goals as goal

pub returns : goal.returns
returns c =
    let a = c.args in
    rw (c.head_in_range.ensures, c.distances_in_range.ensures)
    (sym (numbers-split a.table.now.v a.table.now.e a.table.now.edges.now a.table.now.virtuals.now a.table.now.defects.now a.table.now.duals.now a.table.now.growths.now a.distances.now))

use Rattle.table_check.specs.Tests.{covered_by}
use mathlib.Core.Path.{◌≡◌}
use Rattle.graph.specs.Basic.{all_below}
use mathlib.Core.Bool.{true}
use Rattle.table_words.specs.Handed.{distance_in, row_of}
use Rattle.table_check.specs.laws.Rows.{row_test}
use Rattle.table_check.proofs.check.rows_right.Given as goal

abbrev pub invariant-loop-i : goal.invariant-loop-i
invariant-loop-i l =
    (all_below (row_test l.table.v l.table.e l.table.edges.now l.table.virtuals.now l.table.defects.now l.table.duals.now l.table.growths.now
    (λ j. distance_in (row_of l.table.v l.distances j))) l.i ≡ true)
    × (l.m ≡ covered_by l.table.v (λ j. distance_in (row_of l.table.v l.distances j)) l.table.duals.now l.i)

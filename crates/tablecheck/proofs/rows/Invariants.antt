use Rattle.tablecheck.specs.laws.Read.{SoFar}
use Rattle.tablecheck.proofs.rows.Given as goal

abbrev pub invariant-loop-i : goal.invariant-loop-i
invariant-loop-i g l =
    SoFar l.table.v l.table.e l.table.edges.now l.table.virtuals.now l.table.defects.now l.table.duals.now l.table.growths.now l.i
    (record { in_range = l.k.in_range; passed = l.k.passed; marks = l.m })

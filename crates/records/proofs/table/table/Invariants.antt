use Rattle.graph.specs.Layout.{state_of}
use Rattle.calls.specs.Calls.{growths, growth_table}
use Rattle.records.specs.Lines.{lines_for}
use Rattle.records.specs.laws.Table.{Telling, table_from}
use Rattle.records.proofs.table.table.Given as goal

abbrev pub invariant-loop-e : goal.invariant-loop-e
invariant-loop-e l =
    Telling l.initial.lines l.initial.out.at l.initial.out.full l.lines l.out.at l.out.full
    (lines_for l.k (growths (growth_table (state_of l.b)))) (table_from l.k (state_of l.b) l.e)

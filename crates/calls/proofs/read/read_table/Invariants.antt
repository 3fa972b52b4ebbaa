use Rattle.std.specs.Prelude.{◌≡◌, length, take}
use Rattle.graph.specs.Layout.{state_of}
use Rattle.calls.specs.Calls.{growth_table}
use Rattle.calls.specs.Reply.{placed}
use Rattle.calls.proofs.read.read_table.Given as goal

abbrev pub invariant-loop-s : goal.invariant-loop-s
invariant-loop-s l = (l.table ≡ placed (take l.s (growth_table (state_of l.b))) l.initial.table)
    × (length l.table ≡ length l.initial.table)

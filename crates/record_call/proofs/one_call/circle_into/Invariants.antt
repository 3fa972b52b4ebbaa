use Rattle.std.specs.Prelude.{◌≡◌, ◌+◌, ◌-◌, ◌++◌, map, take}
use Rattle.graph.specs.Word.{to_nat}
use Rattle.records.specs.Record.{fields}
use Rattle.record_call.proofs.one_call.circle_into.Given as goal

abbrev pub invariant-loop-i : goal.invariant-loop-i
invariant-loop-i l = map to_nat (take l.i l.c) ++ fields (l.k - l.i) l.body (l.i + 1) ≡ fields l.k l.body 1

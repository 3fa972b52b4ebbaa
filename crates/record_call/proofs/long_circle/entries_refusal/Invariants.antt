use Rattle.std.specs.Prelude.{◌≡◌, ◌+◌, ◌-◌, false}
use Rattle.graph.specs.Layout.{state_of}
use Rattle.records.specs.Record.{fields}
use Rattle.record_call.specs.inner.Long.{rest_refusal}
use Rattle.record_call.proofs.long_circle.entries_refusal.Given as goal

abbrev pub invariant-loop-i : goal.invariant-loop-i
invariant-loop-i l =
    rest_refusal (state_of l.b) l.inner (fields (l.k - l.i) l.body (l.i + 1))
    ≡ rest_refusal (state_of l.b) false (fields l.k l.body 1)

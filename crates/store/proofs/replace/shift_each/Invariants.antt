use Prim.Native.Nat.{◌≤◌}
use Rattle.graph.specs.Layout.{state_of}
use Rattle.store.specs.inner.Wrote.{Shifted}
use Rattle.store.proofs.replace.shift_each.Given as goal

abbrev pub invariant-loop-i : goal.invariant-loop-i
invariant-loop-i l = Shifted l.initial.b l.b l.lo l.i l.add l.sub × ((state_of l.initial.b).node_limit ≤ 1024)

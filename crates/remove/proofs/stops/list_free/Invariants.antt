use mathlib.Core.Path.{◌≡◌}
use Rattle.remove.specs.inner.Stops.{entries_before, Met}
use Rattle.graph.specs.Layout.{state_of}
use lib.ListN.{length}
use Prim.Native.Nat.{◌+◌}
use Rattle.remove.proofs.stops.list_free.Given as goal

abbrev pub invariant-loop-i : goal.invariant-loop-i
invariant-loop-i l = Met (state_of l.b) l.n l.own (entries_before (state_of l.b) l.n l.m + l.i) l.met
    × (length l.met ≡ length l.initial.met)

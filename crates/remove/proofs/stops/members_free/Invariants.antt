use Rattle.remove.specs.inner.Stops.{entries_before, Met}
use Rattle.graph.specs.Layout.{state_of}
use lib.ListN.{length}
use mathlib.Core.Path.{◌≡◌}
use Rattle.remove.proofs.stops.members_free.Given as goal

abbrev pub invariant-loop-m : goal.invariant-loop-m
invariant-loop-m l = Met (state_of l.b) l.n l.own (entries_before (state_of l.b) l.n l.m) l.met × (length l.met ≡ 8192)

use Prim.Native.Nat.{◌-◌, ◌<◌}
use mathlib.Core.Path.{◌≡◌}
use Rattle.graph.specs.State.{node_count, parent_of}
use Rattle.graph.specs.Layout.{state_of}
use Rattle.calls.specs.Contacts.{outermost_of}
use Rattle.contacts.proofs.outermost.Given as goal

abbrev pub invariant-loop-p : goal.invariant-loop-p
invariant-loop-p l =
    (l.m < node_count (state_of l.b)) × (l.p ≡ parent_of (state_of l.b) l.m) × (outermost_of (state_of l.b) l.m ≡ outermost_of (state_of l.b) l.n)

abbrev pub decreases-loop-p : goal.decreases-loop-p
decreases-loop-p l = node_count (state_of l.b) - l.m

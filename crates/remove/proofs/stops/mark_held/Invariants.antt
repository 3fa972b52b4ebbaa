use mathlib.Core.Path.{◌≡◌}
use Rattle.remove.specs.laws.Stops.{HeldTo}
use Rattle.graph.specs.Layout.{state_of}
use lib.ListN.{length}
use Rattle.remove.proofs.stops.mark_held.Given as goal

abbrev pub invariant-loop-i : goal.invariant-loop-i
invariant-loop-i l = HeldTo (state_of l.b) l.n l.i l.own × (length l.own ≡ length l.initial.own)

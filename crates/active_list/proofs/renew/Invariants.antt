use mathlib.Core.Path.{◌≡◌}
use Rattle.active_list.specs.laws.Renewal.{Renewing}
use Rattle.graph.specs.Layout.{state_of}
use lib.ListN.{length}
use Rattle.active_list.proofs.renew.Given as goal

abbrev pub invariant-loop-i : goal.invariant-loop-i
invariant-loop-i l = Renewing l.initial.b l.b l.i l.j × (l.k ≡ length (state_of l.initial.b).active) × (length l.b ≡ length l.initial.b)

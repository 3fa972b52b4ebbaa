use mathlib.Core.Path.{◌≡◌}
use lib.Dec.{ltb}
use lib.ListN.{length}
use Rattle.graph.specs.State.{node_count}
use Rattle.graph.specs.Layout.{state_of}
use Rattle.graph.specs.inner.Scans.{Stamped}
use Rattle.node_tests.proofs.active.active_once.Given as goal

abbrev pub invariant-loop-i : goal.invariant-loop-i
invariant-loop-i l = Stamped 1 (λ n. ltb n (node_count (state_of l.b))) (state_of l.b).active l.i l.marks × (length l.marks ≡ 1024)

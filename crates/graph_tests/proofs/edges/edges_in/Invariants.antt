use Rattle.graph_tests.specs.inner.Walk.{Walking}
use Rattle.graph.specs.Sound.{edge_sound}
use Rattle.graph.specs.Layout.{state_of}
use Rattle.graph.specs.Basic.{all_below}
use lib.ListN.{length}
use Prim.Native.Nat.{◌*◌}
use mathlib.Core.Bool.{true}
use mathlib.Core.Path.{◌≡◌}
use Rattle.graph_tests.proofs.edges.edges_in.Given as goal

abbrev pub invariant-loop-i : goal.invariant-loop-i
invariant-loop-i l = (all_below (edge_sound (state_of l.b)) l.i ≡ true) × Walking l.b (2 * l.i) l.next × (length l.next ≡ length l.initial.next)

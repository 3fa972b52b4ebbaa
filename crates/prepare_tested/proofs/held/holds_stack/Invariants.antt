use Prim.Native.Nat.{◌+◌}
use mathlib.Core.Path.{◌≡◌}
use mathlib.Core.Bool.{true}
use lib.Dec.{eqb}
use lib.ListN.{take}
use Rattle.graph.specs.Basic.{all}
use Rattle.graph.specs.State.{Overgrown, vertex_holder_at, overgrown_of}
use Rattle.graph.specs.Layout.{state_of}
use Rattle.prepare_tested.proofs.held.holds_stack.Given as goal

abbrev pub invariant-loop-i : goal.invariant-loop-i
invariant-loop-i l = (all (λ (o : Overgrown). eqb (vertex_holder_at (state_of l.b) o.vertex) (l.n + 1))
    (take l.i (overgrown_of (state_of l.b) l.n)) ≡ true)

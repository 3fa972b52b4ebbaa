use Rattle.node_tests.specs.laws.Marks.{Marked}
use Rattle.graph.specs.State.{side_count, holder_at, boundary_of}
use lib.Dec.{ltb}
use Rattle.graph.specs.Layout.{state_of}
use Rattle.graph.specs.Basic.{all}
use lib.ListN.{length, take}
use mathlib.Core.Bool.{true}
use mathlib.Core.Path.{◌≡◌}
use Rattle.node_tests.proofs.own_lists.boundary_own.Given as goal

abbrev pub invariant-loop-i : goal.invariant-loop-i
invariant-loop-i l = (all (λ x. ltb x (side_count (state_of l.b))) (take l.i (boundary_of (state_of l.b) l.n)) ≡ true) × Marked (holder_at (state_of l.b)) l.n (boundary_of (state_of l.b) l.n) l.i l.marks × (length l.marks ≡ length l.initial.marks)

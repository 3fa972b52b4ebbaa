use Rattle.node_tests.specs.laws.Marks.{Marked}
use Rattle.graph.specs.inner.Scans.{overgrown_vertices}
use Rattle.graph.specs.Sound.{over_sound}
use Rattle.graph.specs.State.{vertex_holder_at, overgrown_of}
use Rattle.graph.specs.Layout.{state_of}
use Rattle.graph.specs.Basic.{all}
use lib.ListN.{length, take}
use mathlib.Core.Bool.{true}
use mathlib.Core.Path.{◌≡◌}
use Rattle.node_tests.proofs.own_lists.overgrown_own.Given as goal

abbrev pub invariant-loop-i : goal.invariant-loop-i
invariant-loop-i l = (all (over_sound (state_of l.b)) (take l.i (overgrown_of (state_of l.b) l.n)) ≡ true) × Marked (vertex_holder_at (state_of l.b)) l.n (overgrown_vertices (state_of l.b) l.n) l.i l.marks × (length l.marks ≡ length l.initial.marks)

use Prim.Native.Nat.{◌+◌, ◌≤◌}
use Rattle.graph.specs.State.{boundary_of}
use Rattle.graph.specs.Layout.{state_of}
use Rattle.pass.specs.inner.Once.{grow_step_once}
use Rattle.grow_pass.specs.inner.Growing.{NotesFit}
use Rattle.grow_pass.specs.laws.Growing.{Looped}
use Rattle.grow_pass.specs.laws.Grow.{nothing}
use Rattle.grow_pass.proofs.grow.grow_scan.Given as goal

abbrev pub invariant-loop-i : goal.invariant-loop-i
invariant-loop-i l = Looped (grow_step_once l.n) l.initial.b l.initial.t l.b l.t l.n l.m nothing l.q
    (boundary_of (state_of l.initial.b) l.n) l.i × (l.q.kept + l.q.noted ≤ l.i) × NotesFit l.b l.q

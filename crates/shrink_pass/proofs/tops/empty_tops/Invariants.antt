use Rattle.graph.specs.State.{overgrown_of}
use Rattle.graph.specs.Layout.{state_of}
use Rattle.shrink_pass.specs.laws.Top.{Counted}
use Rattle.shrink_pass.proofs.tops.empty_tops.Given as goal

abbrev pub invariant-loop-i : goal.invariant-loop-i
invariant-loop-i l = Counted (overgrown_of (state_of l.b) l.n) l.i

use Rattle.graph.specs.State.{down}
use Rattle.graph.specs.Layout.{state_of}
use Rattle.pass.proofs.laws.Preparing.{remaining}
use Rattle.prepare_tested.specs.laws.Testing.{Testing}
use Rattle.prepare_tested.proofs.prepare_tested.Given as goal

abbrev pub invariant-loop-more : goal.invariant-loop-more
invariant-loop-more l = Testing l.initial.b l.b l.initial.t l.t l.n l.passes l.more l.freed_own

abbrev pub decreases-loop-more : goal.decreases-loop-more
decreases-loop-more l = remaining l.more down (state_of l.b)

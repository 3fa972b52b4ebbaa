use borrow.Author.Rules.{rules}
use Rattle.graph.specs.Layout.{state_of}
use Rattle.pass.proofs.laws.Preparing.{Preparing, remaining, preparing-none, preparing-falls, preparing-more, preparing-all}
use Rattle.prepare.proofs.prepare_dual_node_growth.Given as goal

abbrev pub invariant-loop-more : goal.invariant-loop-more
invariant-loop-more l = Preparing l.initial.b l.b l.initial.t l.t l.n l.d l.passes l.more

abbrev pub decreases-loop-more : goal.decreases-loop-more
decreases-loop-more l = remaining l.more l.d (state_of l.b)

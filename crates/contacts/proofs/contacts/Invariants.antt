use Rattle.graph.specs.Layout.{state_of}
use Rattle.contacts.specs.laws.Listed.{ContactsPut}
use Rattle.contacts.proofs.contacts.Given as goal

abbrev pub invariant-loop-e : goal.invariant-loop-e
invariant-loop-e l = ContactsPut (state_of l.b) l.initial.list l.list l.e l.k

use Rattle.node_tests.specs.laws.Pack.{Packing}
use Rattle.node_tests.proofs.node_lists.packed.Given as goal

abbrev pub invariant-loop-n : goal.invariant-loop-n
invariant-loop-n l = Packing l.b l.n l.a

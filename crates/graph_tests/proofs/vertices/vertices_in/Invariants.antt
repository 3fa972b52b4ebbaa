use Rattle.graph_tests.specs.laws.Begin.{Begun}
use lib.ListN.{length}
use mathlib.Core.Path.{◌≡◌}
use Rattle.graph_tests.proofs.vertices.vertices_in.Given as goal

abbrev pub invariant-loop-v : goal.invariant-loop-v
invariant-loop-v l = Begun l.b l.v l.a l.next × (length l.next ≡ length l.initial.next)

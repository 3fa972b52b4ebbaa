use Rattle.graph_tests.specs.inner.Walk.{reached_at}
use Rattle.graph.specs.Basic.{all_below}
use mathlib.Core.Bool.{true}
use mathlib.Core.Path.{◌≡◌}
use Rattle.graph_tests.proofs.edges.all_reached.Given as goal

abbrev pub invariant-loop-v : goal.invariant-loop-v
invariant-loop-v l = (all_below (reached_at l.b l.next) l.v ≡ true)

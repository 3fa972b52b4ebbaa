use Rattle.graph.specs.Sound.{live_or_none}
use Rattle.graph.specs.State.{vertex_holder_at}
use Rattle.graph.specs.Layout.{state_of}
use Rattle.graph.specs.Basic.{all_below}
use mathlib.Core.Bool.{true}
use mathlib.Core.Path.{◌≡◌}
use Rattle.node_tests.proofs.removed.vertices_live.Given as goal

abbrev pub invariant-loop-v : goal.invariant-loop-v
invariant-loop-v l = (all_below (λ x. live_or_none (state_of l.b) (vertex_holder_at (state_of l.b) x)) l.v ≡ true)

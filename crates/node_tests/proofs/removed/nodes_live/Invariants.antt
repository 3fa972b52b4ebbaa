use Rattle.graph.specs.Sound.{node_live}
use Rattle.graph.specs.Layout.{state_of}
use Rattle.graph.specs.Basic.{all_below}
use mathlib.Core.Bool.{true}
use mathlib.Core.Path.{◌≡◌}
use Rattle.node_tests.proofs.removed.nodes_live.Given as goal

abbrev pub invariant-loop-n : goal.invariant-loop-n
invariant-loop-n l = (all_below (node_live (state_of l.b)) l.n ≡ true)

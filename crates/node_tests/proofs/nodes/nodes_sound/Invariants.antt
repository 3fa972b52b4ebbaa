use mathlib.Core.Path.{◌≡◌}
use mathlib.Core.Bool.{true}
use lib.ListN.{length}
use Rattle.graph.specs.Basic.{all_below}
use Rattle.graph.specs.Sound.{node_sound}
use Rattle.graph.specs.Layout.{state_of}
use Rattle.node_tests.specs.inner.Marks.{Marks}
use Rattle.node_tests.proofs.nodes.nodes_sound.Given as goal

abbrev pub invariant-loop-n : goal.invariant-loop-n
invariant-loop-n l = (all_below (node_sound (state_of l.b)) l.n ≡ true) × Marks (state_of l.b) l.n l.sides l.vertices × (length l.sides ≡ 8192) × (length l.vertices ≡ 1024)

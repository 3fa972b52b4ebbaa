use Rattle.graph.specs.Sound.{live_or_none}
use Rattle.graph.specs.State.{holder_at}
use Rattle.graph.specs.Layout.{state_of}
use Rattle.graph.specs.Basic.{all_below}
use mathlib.Core.Bool.{true}
use mathlib.Core.Path.{◌≡◌}
use Rattle.node_tests.proofs.removed.sides_live.Given as goal

abbrev pub invariant-loop-s : goal.invariant-loop-s
invariant-loop-s l = (all_below (λ x. live_or_none (state_of l.b) (holder_at (state_of l.b) x)) l.s ≡ true)

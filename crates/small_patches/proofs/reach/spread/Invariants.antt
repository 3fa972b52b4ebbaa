use Rattle.small_patches.specs.Reach.{spread_over}
use Rattle.graph.specs.Opening.{edges_from}
use lib.ListN.{length}
use mathlib.Core.Path.{◌≡◌}
use Rattle.small_patches.proofs.reach.spread.Given as goal

abbrev pub invariant-loop-n : goal.invariant-loop-n
invariant-loop-n l = (l.m ≡ spread_over (edges_from l.edges) l._n l.initial.m) × (length l.m ≡ length l.initial.m)

use Rattle.small_patches.specs.Reach.{spread_along}
use Rattle.graph.specs.Opening.{edges_from}
use Rattle.graph.specs.Basic.{fold}
use lib.ListN.{length, take}
use mathlib.Core.Path.{◌≡◌}
use Rattle.small_patches.proofs.reach.spread_once.Given as goal

abbrev pub invariant-loop-i : goal.invariant-loop-i
invariant-loop-i l = (l.m ≡ fold spread_along l.initial.m (take l.i (edges_from l.edges))) × (length l.m ≡ length l.initial.m)

use Rattle.small_patches.specs.Reach.{has_mark}
use Rattle.graph.specs.Basic.{all_below}
use mathlib.Core.Bool.{true}
use mathlib.Core.Path.{◌≡◌}
use Rattle.small_patches.proofs.reach.all_marked.Given as goal

abbrev pub invariant-loop-a : goal.invariant-loop-a
invariant-loop-a l = all_below (has_mark l.m) l.a ≡ true

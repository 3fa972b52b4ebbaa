use Rattle.table_check.specs.Tests.{spread_new, spread_sides}
use mathlib.Core.Path.{◌≡◌}
use Rattle.table_check.proofs.reach.spread_once.Given as goal

abbrev pub invariant-loop-s : goal.invariant-loop-s
invariant-loop-s l = (l.t ≡ spread_new l.edges l.initial.m l.s) × (l.m ≡ spread_sides l.edges l.initial.m l.s)

use Rattle.table_check.specs.Tests.{spread_until}
use mathlib.Core.Path.{◌≡◌}
use Prim.Native.Nat.{◌-◌}
use Rattle.table_check.proofs.reach.spread.Given as goal

abbrev pub invariant-loop : goal.invariant-loop
invariant-loop l = spread_until l.e l.edges (l.v - l.counter) l.m ≡ spread_until l.e l.edges l.v l.initial.m

use Prim.Native.Nat.{◌≤◌}
use Rattle.sheet.specs.Sheet.{values_from, vanishes}
use Rattle.sheet.specs.laws.Count.{Counting}
use Rattle.sheet.proofs.weights.vanished.Given as goal

abbrev pub invariant-loop-w : goal.invariant-loop-w
invariant-loop-w l = (l.k ≤ l.w-index) × Counting (vanishes l.m) (values_from l.sheet) l.w-index l.k

use Prim.Native.Nat.{◌-◌, ◌≤◌}
use Rattle.bad_blocks.proofs.changes.Given as goal

abbrev pub invariant-loop-i : goal.invariant-loop-i
invariant-loop-i l = l.n ≤ l.i

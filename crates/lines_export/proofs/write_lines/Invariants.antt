use mathlib.Core.Path.{◌≡◌}
use Rattle.lines_export.specs.laws.Stream.{Progress, progress_start, progress_step, progress-done, goes_on}
use borrow.Author.Rules.{rules}
use native.Mathlib.Omega.{arith}
use Prim.Native.Nat.{◌-◌}
use lib.ListN.{length}
use Rattle.record_step.specs.Standing.{memory}
use Rattle.lines_export.proofs.write_lines.Given as goal

abbrev pub invariant-loop-i : goal.invariant-loop-i
invariant-loop-i l =
    Progress l.records l.initial.lines l.i l.r.«record» (memory l.r.stage l.r.setup l.block l.edges l.virtuals) l.scratch l.lines l.o.at l.o.full
    × (length l.block ≡ length l.initial.block) × (length l.scratch ≡ length l.initial.scratch) × (length l.edges ≡ length l.initial.edges) × (length l.virtuals ≡ length l.initial.virtuals)

abbrev pub decreases-loop-i : goal.decreases-loop-i
decreases-loop-i l =
    length l.records - l.i

use Rattle.std.proofs.Common.{◌+◌, ◌-◌, ◌<◌, ◌≤◌}
use Rattle.record_step.specs.Standing.{memory, Standing, MemorySuffices}
use Rattle.cardrun.proofs.take_input.Given as goal

abbrev pub invariant-loop-r : goal.invariant-loop-r
invariant-loop-r g l =
    Standing (memory l.r.stage l.r.setup l.block l.edges l.virtuals) × MemorySuffices l.block l.scratch l.edges l.virtuals
    × (l.r.stage < 3 → l.n ≤ 65536) × (l.r.«record» + l.n ≤ l.count) × (l.count ≤ 9223372036854906879)

abbrev pub decreases-loop-r : goal.decreases-loop-r
decreases-loop-r g l = 9223372036854775807 - l.count

use Rattle.std.proofs.Common.{length, drop, ◌≡◌, ◌+◌, ◌-◌, ◌≤◌}
use Rattle.record_step.specs.Standing.{memory, Standing, MemorySuffices}
use Rattle.cardrun.specs.Blocks.{BlockRan}
use Rattle.cardrun.proofs.run_block.Given as goal

abbrev pub invariant-loop-lines : goal.invariant-loop-lines
invariant-loop-lines g l =
    let s = l.initial in
    BlockRan s.r.«record» l.r.«record» (memory s.r.stage s.r.setup s.block s.edges s.virtuals)
    (memory l.r.stage l.r.setup l.block l.edges l.virtuals) l.input (drop l.i l.input) × (l.i ≤ length l.input)
    × (l.r.«record» ≤ s.r.«record» + l.i) × Standing (memory l.r.stage l.r.setup l.block l.edges l.virtuals)
    × MemorySuffices l.block l.scratch l.edges l.virtuals × (l.scratch ≡ s.scratch)

abbrev pub decreases-loop-lines : goal.decreases-loop-lines
decreases-loop-lines g l = length l.input - l.i

use Rattle.std.proofs.Common.{length, ◌-◌}
use Rattle.record_step.specs.Standing.{memory}
use Rattle.cardrun.specs.laws.Blocks.{Along}
use Rattle.cardrun.proofs.run_some.Given as goal

abbrev pub invariant-loop-lines : goal.invariant-loop-lines
invariant-loop-lines l =
    let s = l.initial in
    Along l.input s.i s.r.«record» (memory s.r.stage s.r.setup s.block s.edges s.virtuals) s.scratch
    l.i l.r.«record» (memory l.r.stage l.r.setup l.block l.edges l.virtuals) l.scratch l.lines l.o.at l.o.full

abbrev pub decreases-loop-lines : goal.decreases-loop-lines
decreases-loop-lines l = length l.input - l.i

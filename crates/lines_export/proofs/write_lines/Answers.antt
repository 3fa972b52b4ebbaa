use mathlib.Core.Path.{◌≡◌}
use Rattle.lines_export.specs.laws.Stream.{Progress, progress_start, progress_step, progress-done, goes_on}
use borrow.Author.Rules.{rules}
use native.Mathlib.Omega.{arith}
use Prim.Native.Nat.{◌-◌}
use lib.ListN.{length}
use Rattle.record_step.specs.Standing.{memory}
use Rattle.lines_export.proofs.write_lines.Goals as goal

pub loop-i-init : goal.loop-i-init
loop-i-init c = (
  progress_start _ _ _ _ _ _ _ _ _ c.fresh-r.ensures.1 c.fresh-r.ensures.0 c.requires,
  search rules,
  search rules,
  search rules,
  search rules,
)

pub step_on-t-requires : goal.step_on-t-requires
step_on-t-requires c =
    let s = c.loop-i in
    let g = goes_on s.i _ s.r.stage s.o.full c.loop-i-test.true in
    (g.0, s.invariant.0.counted, s.invariant.0.telling.room, g.1, record { at = s.invariant.0.at; stands = s.invariant.0.stands }, s.invariant.0.roomy)

pub loop-i-smaller : goal.loop-i-smaller
loop-i-smaller c =
    omega (
      arith,
      c.step_on-t.ensures.0.on,
      c.step_on-t.ensures.0.within,
    )

pub loop-i-preserved : goal.loop-i-preserved
loop-i-preserved c =
    let e = c.step_on-t.ensures in (
      progress_step
          c.loop-i.invariant.0
          e.0 e.1 e.2 (search rules) (search rules) (search rules) (search rules),
      search rules,
      search rules,
      search rules,
      search rules,
    )

pub shape_of-lines : goal.shape_of-lines
shape_of-lines c = c.loop-i.invariant.0.same

pub returns : goal.returns
returns c = let p = progress-done c.loop-i.invariant.0 c.loop-i-test.false in record { bytes = p.0; count = p.1 }

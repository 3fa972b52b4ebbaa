use Rattle.std.proofs.Common.{◌<◌, ltb, ltb-true, arith}
use borrow.Author.Rules.{rules}
use Rattle.graph.specs.laws.State.{and_right}
use Rattle.records.specs.Run.{fresh}
use Rattle.record_step.specs.laws.Standing.{stands-fresh, roomy-kept}
use Rattle.cardrun.specs.laws.Blocks.{ran-standing}
use Rattle.cardrun.proofs.take_input.Goals as goal

pub loop-r-init : goal.loop-r-init
loop-r-init g c = (
  record { at = fresh; stands = stands-fresh _ c.fresh-r.ensures.0 },
  c.requires.2,
  λ on. omega arith,
  omega (arith, c.fresh-r.ensures.1),
  omega arith,
)

pub loop-r-preserved : goal.loop-r-preserved
loop-r-preserved g c =
    let l = c.loop-r in
    let e = c.in_ok-t.ensures in
    let few : l.count < 9223372036854775807 =
    ltb-true l.count 9223372036854775807 (and_right (ltb l.r.stage 3) (ltb l.count 9223372036854775807) c.loop-r-test.true) in (
      ran-standing e.ran l.invariant.0,
      roomy-kept l.invariant.1 (search rules) e.kept (search rules) (search rules),
      e.cut.1,
      omega (arith, e.place.1, l.invariant.3),
      omega (arith, c.in_ok-got.ensures.room),
    )

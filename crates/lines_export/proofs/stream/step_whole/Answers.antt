use Rattle.lines_export.specs.laws.Stream.{whole-ends}
use native.Mathlib.Omega.{arith}
use Rattle.record_step.specs.laws.Standing.{part-short}
use lib.ListN.{drop}
use mathlib.Core.Path.{ap}
use Prim.Native.Nat.{◌+◌, ◌-◌, ◌≤◌}
use borrow.Author.Rules.{rules}
use Rattle.lines_export.proofs.stream.step_whole.Goals as goal

pub overflow_add-a : goal.overflow_add-a
overflow_add-a c = let w = whole-ends _ _ c.requires.0 in omega arith

pub pair-requires : goal.pair-requires
pair-requires c = let w = whole-ends _ _ c.requires.0 in omega arith

pub overflow_add-e : goal.overflow_add-e
overflow_add-e c = let w = whole-ends _ _ c.requires.0 in omega (arith, c.pair.ensures)

pub slice_bounds-step_record-end : goal.slice_bounds-step_record-end
slice_bounds-step_record-end c = let w = whole-ends _ _ c.requires.0 in search rules

pub step_record-t-requires : goal.step_record-t-requires
step_record-t-requires c =
    let n = c.pair.result in
    let h : c.args.i + 2 + n - (c.args.i + 2) ≤ 65535 = omega (arith, c.pair.ensures.1) in (
      c.requires.1,
      c.requires.2,
      c.requires.3,
      c.requires.4,
      part-short (c.args.i + 2 + n - (c.args.i + 2)) (drop (c.args.i + 2) c.args.records.now) h,
      c.requires.5,
    )

pub returns : goal.returns
returns c =
    let e = c.step_record-t.ensures in
    let k = c.pair.ensures.0 in
    let w = whole-ends _ _ c.requires.0 in (e.0, ap (λ x. c.args.i + 2 + x) k, omega (arith, w, k), e.1, e.2)

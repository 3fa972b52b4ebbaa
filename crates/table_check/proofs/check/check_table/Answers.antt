use mathlib.Core.Path.{sym}
use Rattle.std.proofs.lemmas.Result.{err_from_is_err_and}
use Rattle.table_check.specs.Verdict.{verdict_by, table_verdict}
use borrow.Author.Tests.{ne_eqb}
use Rattle.refusal.specs.Refusal.{number, number-some}
use Rattle.table_check.specs.laws.Accepted.{accepted-of, defects-few}
use Rattle.table_check.specs.laws.Right.{tested-right}
use Rattle.table_check.proofs.check.check_table.Goals as goal

pub returns-in_err-refusal : goal.returns-in_err-refusal
unfolding table_verdict verdict_by
returns-in_err-refusal c =
    let p = err_from_is_err_and c.from_residual.result c.from_residual.ensures.1 in
    rw (p.1, p.2, ← c.in_err-refusal.ensures, ne_eqb (number c.in_err-refusal.field-0.0) 0 (number-some _))

pub tested-requires : goal.tested-requires
tested-requires c =
    let a = c.args in
    let z =
    accepted-of a.v a.e a.edges.now a.virtuals.now a.defects.now a.duals.now a.growths.now a.distances.now
    (sym c.in_ok-refusal.ensures) in (
      z.v-max,
      z.e-max,
      defects-few a.v a.e a.edges.now a.virtuals.now a.defects.now a.duals.now a.growths.now
          a.distances.now z,
      z.distance-count,
    )

pub returns : goal.returns
unfolding table_verdict verdict_by
returns c =
    let a = c.args in
    let z =
    accepted-of a.v a.e a.edges.now a.virtuals.now a.defects.now a.duals.now a.growths.now a.distances.now
    (sym c.in_ok-refusal.ensures) in
    rw (
      ← c.in_ok-refusal.ensures,
      ← tested-right a.v a.e a.edges.now a.virtuals.now a.defects.now a.duals.now a.growths.now
          a.distances.now z,
      ← c.tested.ensures,
    )

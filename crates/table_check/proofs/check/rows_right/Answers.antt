use Rattle.table_rows.specs.Row.{row_right}
use borrow.Author.Rules.{rules}
use mathlib.Core.Path.{◌≡◌, refl, sym, ◌∙◌, ap}
use native.Mathlib.Omega.{arith}
use Prim.Native.Nat.{ℕ}
use Rattle.graph.specs.Basic.{all_below}
use Rattle.graph.specs.laws.Scan.{all_more, all-fails}
use lib.ListN.{length}
use Rattle.table_words.specs.Handed.{distance_in, row_of}
use Rattle.table_check.specs.laws.Rows.{row_is, covered_none, covered_more, row_test, rows-fail, rows_pass}
use Rattle.table_check.proofs.check.rows_right.Goals as goal

pub loop-i-init : goal.loop-i-init
unfolding all_below
loop-i-init c = (refl, covered_none _ _ _)

pub loop-i-preserved : goal.loop-i-preserved
loop-i-preserved c =
    let a = c.args in
    let l = c.loop-i in (
      all_more (row_test a.table.now.v a.table.now.e a.table.now.edges.now a.table.now.virtuals.now a.table.now.defects.now a.table.now.duals.now a.table.now.growths.now
          (λ j. distance_in (row_of a.table.now.v a.distances.now j))) l.i l.invariant.0
          (sym (c.row_right.ensures
          ∙ ap (λ (f : ℕ → ℕ). row_right a.table.now.v a.table.now.e a.table.now.edges.now a.table.now.virtuals.now a.table.now.defects.now a.table.now.duals.now a.table.now.growths.now f l.i)
          (row_is a.table.now.v l.i a.distances.now)) ∙ c.if-not-row_right.false),
      covered_more a.table.now.v (λ j. distance_in (row_of a.table.now.v a.distances.now j)) a.table.now.duals.now l.i l.invariant.1
          (row_is a.table.now.v l.i a.distances.now) c.number.ensures.0 c.cover.ensures,
    )

pub returns-then-not-row_right : goal.returns-then-not-row_right
returns-then-not-row_right c =
    let a = c.args in
    rows-fail a.table.now.v a.table.now.e a.table.now.edges.now a.table.now.virtuals.now a.table.now.defects.now a.table.now.duals.now a.table.now.growths.now
    (λ j. distance_in (row_of a.table.now.v a.distances.now j))
    (all-fails (row_test a.table.now.v a.table.now.e a.table.now.edges.now a.table.now.virtuals.now a.table.now.defects.now a.table.now.duals.now a.table.now.growths.now
    (λ j. distance_in (row_of a.table.now.v a.distances.now j))) (length a.table.now.defects.now) c.loop-i.i (search rules)
    (sym (c.row_right.ensures
    ∙ ap (λ (f : ℕ → ℕ). row_right a.table.now.v a.table.now.e a.table.now.edges.now a.table.now.virtuals.now a.table.now.defects.now a.table.now.duals.now a.table.now.growths.now f
    c.loop-i.i) (row_is a.table.now.v c.loop-i.i a.distances.now)) ∙ c.if-not-row_right.true))

pub returns : goal.returns
returns c =
    let a = c.args in
    let e : c.loop-i.i ≡ length a.table.now.defects.now = omega arith in
    c.free.ensures ∙ rows_pass a.table.now.v a.table.now.e a.table.now.edges.now a.table.now.virtuals.now a.table.now.defects.now a.table.now.duals.now a.table.now.growths.now
    (λ j. distance_in (row_of a.table.now.v a.distances.now j)) (rw e at c.loop-i.invariant.0) (rw e at c.loop-i.invariant.1)

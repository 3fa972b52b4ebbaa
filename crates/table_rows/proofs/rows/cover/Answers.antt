use lib.Dec.{ltb}
use Rattle.table_rows.specs.Row.{cover_marks}
use mathlib.Core.Path.{◌≡◌, refl, ap}
use native.Mathlib.Omega.{arith}
use Rattle.table_words.specs.laws.Loops.{marks-none, marks-more}
use Rattle.table_rows.proofs.rows.cover.Goals as goal

pub loop-u-init : goal.loop-u-init
loop-u-init c = marks-none _ _ _

pub loop-u-preserved : goal.loop-u-preserved
loop-u-preserved c =
    marks-more _ _ _ c.loop-u.u c.loop-u.invariant (ap (λ d. ltb d c.args.y) c.distance_in.ensures.0) refl
    c.mark_if.ensures

pub returns : goal.returns
unfolding cover_marks
returns c = let e : c.loop-u.u ≡ c.args.v = omega arith in rw e at c.loop-u.invariant

use borrow.Author.Rules.{rules}
use Rattle.table_check.specs.Tests.{virtual_marks}
use Rattle.graph.specs.Word.{word_at}
use mathlib.Core.Path.{◌≡◌, refl}
use native.Mathlib.Omega.{arith}
use Rattle.table_words.specs.laws.Loops.{marks-none, marks-more}
use lib.ListN.{length}
use Rattle.table_check.proofs.reach.mark_virtuals.Goals as goal

pub loop-x-init : goal.loop-x-init
loop-x-init c = marks-none _ _ _

pub loop-x-preserved : goal.loop-x-preserved
unfolding word_at
loop-x-preserved c =
    marks-more _ _ _ c.loop-x.x-index c.loop-x.invariant refl (search rules) c.mark_if.ensures

pub returns : goal.returns
unfolding virtual_marks
returns c =
    let e : c.loop-x.x-index ≡ length c.args.virtuals.now = omega arith in
    rw e at c.loop-x.invariant

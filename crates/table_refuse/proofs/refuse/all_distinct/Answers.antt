use borrow.Author.Rules.{rules}
use mathlib.Core.Path.{◌≡◌, refl, ◌∙◌}
use Prim.Native.Nat.{◌<◌}
use mathlib.Core.List.{map}
use lib.ListN.{length-map, length-set}
use Rattle.graph.specs.Word.{to_nat, word_at}
use Rattle.graph.specs.laws.Number.{word-entry, word_below}
use Rattle.table_refuse.specs.laws.Distinct.{met-none, met-more, met-twice}
use Rattle.table_refuse.proofs.refuse.all_distinct.Goals.{After-to_nat-a}
use Rattle.table_refuse.proofs.refuse.all_distinct.Goals as goal

-- the number at hand
here : (c : After-to_nat-a) → c.to_nat-a.result ≡ word_at c.args.defects.now c.loop-x.x-index
unfolding word_at
here c = search rules

-- it has a mark
small : (c : After-to_nat-a) → c.to_nat-a.result < 1024
small c = rw (here c) (word_below 1024 c.args.defects.now c.loop-x.x-index c.requires c.loop-x-test.true)

pub loop-x-init : goal.loop-x-init
loop-x-init c = (met-none 1024 (map to_nat c.args.defects.now), refl)

pub offset_bounds-marks-a : goal.offset_bounds-marks-a
offset_bounds-marks-a c = let h = small c in search rules

pub bounds-marks-a : goal.bounds-marks-a
bounds-marks-a c = small c

pub returns-then-marks-a-eq1 : goal.returns-then-marks-a-eq1
returns-then-marks-a-eq1 c =
    let d = c.loop-x in
    let a = c.args in
    met-twice d.invariant.0 c.to_nat-a.result (rw (length-map a.defects.now to_nat) c.loop-x-test.true)
    (here c.before ∙ word-entry a.defects.now d.x-index) (rw d.invariant.1 (small c.before)) c.if-marks-a-eq1.true

pub offset_bounds-marks-a-in-loop-x : goal.offset_bounds-marks-a-in-loop-x
offset_bounds-marks-a-in-loop-x c = let h = small c.before in search rules

pub bounds-marks-a-in-loop-x : goal.bounds-marks-a-in-loop-x
bounds-marks-a-in-loop-x c = small c.before

pub loop-x-preserved : goal.loop-x-preserved
loop-x-preserved c =
    let d = c.loop-x in
    let a = c.args in (
      met-more d.invariant.0 c.to_nat-a.result (rw (length-map a.defects.now to_nat) c.loop-x-test.true)
          (here c.before ∙ word-entry a.defects.now d.x-index) (rw d.invariant.1 (small c.before)) c.if-marks-a-eq1.false,
      simp (length-set) d.invariant.1,
    )

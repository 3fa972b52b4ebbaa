use borrow.Author.Rules.{rules}
use native.Mathlib.Omega.{arith}
use Prim.Native.Nat.{◌<◌}
use mathlib.Core.Path.{refl, ◌∙◌}
use mathlib.Core.List.{map}
use lib.ListN.{length-map, length-set}
use Rattle.graph.specs.Word.{to_nat}
use Rattle.graph.specs.laws.Number.{word-entry, word_below}
use Rattle.blossom.specs.laws.Circle.{item, met-none, met-more, met-twice, met_all}
use Rattle.blossom.proofs.repeats.Goals.{After-to_nat-m}
use Rattle.blossom.proofs.repeats.Goals as goal

-- the number at hand has a mark

small : (c : After-to_nat-m) → c.to_nat-m.result < 1024
small c =
    rw (item c.args.circle.now c.loop-word.word-index c.to_nat-m.ensures.0 (search rules))
    (word_below 1024 c.args.circle.now c.loop-word.word-index c.requires (omega arith))

pub loop-word-init : goal.loop-word-init
loop-word-init c = (met-none 1024 (map to_nat c.args.circle.now), refl)

pub bounds-marks-m : goal.bounds-marks-m
bounds-marks-m c = let h = small c in search rules

pub returns-then-marks-m-eq1 : goal.returns-then-marks-m-eq1
returns-then-marks-m-eq1 c =
    let d = c.loop-word in
    let a = c.args in
    met-twice d.invariant.0 c.to_nat-m.result (rw (length-map a.circle.now to_nat) (omega arith))
    (item c.args.circle.now c.loop-word.word-index c.to_nat-m.ensures.0 (search rules)
    ∙ word-entry a.circle.now d.word-index) (rw d.invariant.1 (small c.before)) c.if-marks-m-eq1.true

pub bounds-marks-m-in-loop-word : goal.bounds-marks-m-in-loop-word
bounds-marks-m-in-loop-word c = let h = small c.before in search rules

pub loop-word-preserved : goal.loop-word-preserved
loop-word-preserved c =
    let d = c.loop-word in
    let a = c.args in (
      met-more d.invariant.0 c.to_nat-m.result (rw (length-map a.circle.now to_nat) (omega arith))
          (item c.args.circle.now c.loop-word.word-index c.to_nat-m.ensures.0 (search rules)
          ∙ word-entry a.circle.now d.word-index) (rw d.invariant.1 (small c.before)) c.if-marks-m-eq1.false,
      simp (length-set) d.invariant.1,
    )

pub returns : goal.returns
returns c = let d = c.loop-word in met_all d.invariant.0 (rw (length-map c.args.circle.now to_nat) (omega arith))

use native.Mathlib.Omega.{arith}
use mathlib.Core.Path.{sym, ◌∙◌}
use Rattle.sheet.specs.Sheet.{values_from, vanished}
use Rattle.sheet.specs.laws.Sheet.{values-count, values-get, value-within}
use Rattle.sheet.specs.laws.Count.{counting-all, counted, passed_over}
use Rattle.std.proofs.lemmas.Int.{ints}
use Rattle.graph.specs.Word.{word_at}
use mathlib.Core.Path.{◌≡◌}
use lib.ListN.{get_or, length}
use Prim.Native.Nat.{◌<◌}
use Rattle.sheet.proofs.weights.vanished.Goals.{After-to_nat, then-vanishes, else-vanishes}
use Rattle.sheet.proofs.weights.vanished.Goals as goal

reading : (c : After-to_nat) → c.to_nat.result ≡ word_at c.args.sheet.now c.loop-w.w-index
unfolding word_at
reading c = grind (arith, ints, c.to_nat.ensures.0)

pub vanishes-requires : goal.vanishes-requires
vanishes-requires c =
    value-within c.args.sheet.now c.loop-w.w-index _ _ c.requires (omega arith) c.largest-m.ensures (reading c)

pub loop-w-preserved : goal.loop-w-preserved
loop-w-preserved c =
    let l = c.args.sheet.now in
    let i = c.loop-w.w-index in
    let h : i < length (values_from l) = rw (values-count l) c.loop-w-test.true in
    let r : get_or (values_from l) i 0 ≡ c.to_nat.result = rw (values-get l i) (sym (reading c.before.before)) in
    elim c.if-vanishes.branch [
      | then-vanishes w ↦
          (omega arith, rw w.k-is (counted _ (values_from l) i c.loop-w.k h c.loop-w.invariant.1 (rw r (sym c.vanishes.ensures ∙ w.if-vanishes.true))))
      | else-vanishes w ↦
          (omega arith, rw w.k-is (passed_over _ (values_from l) i c.loop-w.k h c.loop-w.invariant.1 (rw r (sym c.vanishes.ensures ∙ w.if-vanishes.false))))
    ]

pub returns : goal.returns
unfolding vanished
returns c =
    let l = c.args.sheet.now in
    rw (← c.largest-m.ensures)
    (counting-all _ (values_from l) c.loop-w.w-index c.loop-w.k (rw (values-count l) (omega arith)) c.loop-w.invariant.1)

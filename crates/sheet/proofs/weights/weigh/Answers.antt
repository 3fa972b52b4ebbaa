use native.Mathlib.Omega.{arith}
use mathlib.Core.Path.{refl, ◌∙◌}
use Rattle.graph.specs.Basic.{fold, below}
use Rattle.sheet.specs.Sheet.{values_from}
use Rattle.sheet.specs.laws.Sheet.{values-count, values-get, value-within, weigh-more, weigh-all}
use borrow.Author.Rules.{rules}
use Rattle.std.proofs.lemmas.Int.{ints}
use Rattle.graph.specs.Word.{word_at}
use mathlib.Core.Path.{◌≡◌}
use Rattle.sheet.proofs.weights.weigh.Goals.{After-to_nat}
use Rattle.sheet.proofs.weights.weigh.Goals as goal

pub loop-i-init : goal.loop-i-init
unfolding fold below
loop-i-init c = (refl, refl)

reading : (c : After-to_nat) → c.to_nat.result ≡ word_at c.args.sheet.now c.loop-i.i
unfolding word_at
reading c = grind (arith, ints, c.to_nat.ensures.0)

pub scaled-w-requires : goal.scaled-w-requires
scaled-w-requires c =
    value-within c.args.sheet.now c.loop-i.i _ _ c.requires.0 (omega arith) c.largest-m.ensures (reading c)

pub loop-i-preserved : goal.loop-i-preserved
loop-i-preserved c =
    let a = c.args in
    let l = a.sheet.now in (
      search rules,
      c.put.ensures
          ∙ weigh-more (values_from l) a.edges.now c.loop-i.edges c.loop-i.i c.scaled-w.result c.loop-i.invariant.1
          (c.scaled-w.ensures.0 ∙ rw (c.largest-m.ensures, reading c.before.before.before.before, ← values-get l c.loop-i.i) refl),
    )

pub returns : goal.returns
returns c =
    let a = c.args in
    let l = a.sheet.now in
    weigh-all (values_from l) a.edges.now c.loop-i.edges c.loop-i.i c.loop-i.invariant.1 (rw (values-count l) (omega arith))

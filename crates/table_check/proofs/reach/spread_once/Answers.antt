use mathlib.Core.Path.{sym, ◌∙◌}
use Rattle.table_check.specs.laws.Loops.{spread_none, spread-more, spread-new, spread-old}
use Rattle.table_check.proofs.reach.spread_once.Goals as goal
use Rattle.table_check.proofs.reach.spread_once.Goals.{then-spread_side, else-spread_side}

pub loop-s-init : goal.loop-s-init
loop-s-init c = spread_none _ _

pub loop-s-preserved : goal.loop-s-preserved
loop-s-preserved c =
    let a = c.args in
    let l = c.loop-s in
    let k = c.spread_side in (
      elim c.if-spread_side.branch [
        | then-spread_side w ↦
            w.t-is ∙ spread-new a.edges.now a.m.now l.s l.invariant.1 (sym k.ensures.0 ∙ w.if-spread_side.true)
        | else-spread_side w ↦
            spread-old a.edges.now a.m.now l.s l.invariant.1 (sym k.ensures.0 ∙ w.if-spread_side.false)
            (w.t-is ∙ l.invariant.0)
      ],
      spread-more a.edges.now a.m.now l.s l.invariant.1 k.ensures.1,
    )

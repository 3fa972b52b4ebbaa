use mathlib.Core.Path.{refl, ◌∙◌}
use Rattle.active_list.specs.laws.Renewal.{renewing-none, entry-below, renewing-more, renewing-all}
use native.Mathlib.Omega.{arith}
use Rattle.active_list.proofs.renew.Goals as goal

pub loop-i-init : goal.loop-i-init
loop-i-init c = (renewing-none _ c.requires.0, c.active_count-k.ensures.0, refl)

pub keep-j-requires : goal.keep-j-requires
keep-j-requires c =
    let l = c.loop-i in
    let r = l.invariant.0 in (
      r.block.formed,
      r.half.behind,
      omega (arith, r.half.size, l.invariant.1),
      entry-below _ _ _ _ r (omega (arith, l.invariant.1)) c.requires.1,
    )

pub loop-i-preserved : goal.loop-i-preserved
loop-i-preserved c =
    let l = c.loop-i in (
      renewing-more _ _ l.i l.j l.invariant.0 (omega (arith, l.invariant.1)) c.requires.1 _ _ c.keep-j.ensures.0
          c.keep-j.ensures.1,
      l.invariant.1,
      c.keep-j.auto.b ∙ l.invariant.2,
    )

pub returns : goal.returns
returns c = let l = c.loop-i in renewing-all _ _ _ l.i l.j l.invariant.0 (omega (arith, l.invariant.1)) c.cut.ensures

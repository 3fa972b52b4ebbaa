use mathlib.Core.Path.{sym, ◌∙◌}
use native.Mathlib.Omega.{arith}
use Rattle.std.proofs.lemmas.Result.{err_from_is_err_and}
use Rattle.refusal.specs.Refusal.{number-some}
use Rattle.sheet.specs.laws.Called.{sheet-accepted, refused-done, opened-done, weighed-accepted}
use Rattle.sheet.proofs.open.open_sheet.Goals as goal

pub returns-in_err-refusal : goal.returns-in_err-refusal
returns-in_err-refusal c =
    let a = c.args in
    let p = err_from_is_err_and c.from_residual.result c.from_residual.ensures.1 in
    rw (p.1, p.2)
    (refused-done a.b.now a.t.now a.v a.e a.n a.l a.edges.now a.sheet.now a.virtuals.now _ c.in_err-refusal.ensures (number-some _))

pub weigh-requires : goal.weigh-requires
weigh-requires c = let p = sheet-accepted _ _ _ _ _ _ _ _ (sym c.in_ok-refusal.ensures) in (p.values-ok, omega arith)

-- open refuses no edges that got their weights
pub returns-in_err-open : goal.returns-in_err-open
returns-in_err-open c =
    let a = c.args in
    absurd
    (number-some _
    (c.in_err-open.ensures.0
    ∙ weighed-accepted a.b.now a.t.now a.v a.e a.n a.l a.edges.now a.sheet.now a.virtuals.now _ (sym c.in_ok-refusal.ensures) c.weigh.ensures))

pub vanished-requires : goal.vanished-requires
vanished-requires c = (sheet-accepted _ _ _ _ _ _ _ _ (sym c.in_ok-refusal.ensures)).values-ok

pub returns : goal.returns
returns c =
    let a = c.args in
    opened-done a.b.now a.t.now a.v a.e a.n a.l a.edges.now a.sheet.now a.virtuals.now _ _ _ _
    (sym c.in_ok-refusal.ensures) c.weigh.ensures c.in_ok-open.ensures c.vanished.ensures

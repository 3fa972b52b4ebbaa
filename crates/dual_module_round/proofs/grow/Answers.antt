use Rattle.std.proofs.Common.{refl}
use Rattle.std.proofs.lemmas.Result.{err_from_is_err_and}
use Rattle.refusal.specs.Refusal.{number-some}
use Rattle.dual_module_round.specs.laws.Called.{trial-refused, trial-as, round-lent, round-reply}
use mir.Facts.{to_z-of_z}
use mathlib.Core.Path.{sym, ◌∙◌}
use native.Mathlib.Omega.{arith}
use Rattle.dual_module_round.proofs.grow.Goals as goal

pub returns-in_err-round_refusal : goal.returns-in_err-round_refusal
returns-in_err-round_refusal c =
    let p = err_from_is_err_and c.from_residual.result c.from_residual.ensures.1 in
    rw (p.1, p.2)
    (trial-refused _ _ _ _ _ _
    (rw (to_z-of_z c.ranges.length) at c.in_err-round_refusal.ensures)
    (number-some _))

pub trial-requires : goal.trial-requires
trial-requires c =
    let k =
    round-lent c.args.b.now
    c.args.s.now
    c.args.t.now
    c.args.length
    (sym
    (rw (to_z-of_z c.ranges.length)
    at c.in_ok-round_refusal.ensures)
    ∙ refl) in
    (k.0, omega arith)

pub returns : goal.returns
returns c =
    let j =
    sym
    (rw (to_z-of_z c.ranges.length)
    at c.in_ok-round_refusal.ensures)
    ∙ refl in
    let k = round-lent c.args.b.now c.args.s.now c.args.t.now c.args.length j in
    trial-as _ _ _ j
    (rw (c.magnitude.ensures.0, to_z-of_z c.ranges.length)
    (round-reply _ c.args.length k.1))
    c.trial.ensures

use Rattle.std.proofs.Common.{refl}
use Rattle.std.proofs.lemmas.Result.{err_from_is_err_and}
use Rattle.refusal.specs.Refusal.{number-some}
use Rattle.dual_module_round.specs.laws.Called.{round-first, round-passed, below-yes, below-no}
use mir.Facts.{to_z-of_z}
use Rattle.dual_module_round.proofs.round_refusal.Goals as goal

pub returns-in_err-trial_refusal : goal.returns-in_err-trial_refusal
returns-in_err-trial_refusal c =
    let p = err_from_is_err_and c.from_residual.result c.from_residual.ensures.1 in
    rw (p.1, p.2)
    (round-first c.args.b.now c.args.s.now c.args.t.now c.args.length c.in_err-trial_refusal.ensures
    (number-some _))

pub returns-then-length-lt1 : goal.returns-then-length-lt1
returns-then-length-lt1 c =
    let w = below-yes c.args.length (rw (to_z-of_z c.ranges.length) at c.if-length-lt1.true) in
    rw w
    at
    (round-passed c.args.b.now c.args.s.now c.args.t.now c.args.length
    c.in_ok-trial_refusal.ensures refl)

pub returns : goal.returns
returns c =
    let w = below-no c.args.length (rw (to_z-of_z c.ranges.length) at c.if-length-lt1.false) in
    rw w
    at
    (round-passed c.args.b.now c.args.s.now c.args.t.now c.args.length
    c.in_ok-trial_refusal.ensures refl)

use Rattle.std.proofs.Common.{refl}
use Rattle.std.proofs.lemmas.Result.{err_from_is_err_and}
use Rattle.refusal.specs.Refusal.{number-some}
use Rattle.dual_module_round.specs.laws.Called.{trial-refused, trial-as, prepare-reply}
use mathlib.Core.Path.{sym, ◌∙◌}
use Rattle.dual_module_round.proofs.prepare_all.Goals as goal

pub returns-in_err-trial_refusal : goal.returns-in_err-trial_refusal
returns-in_err-trial_refusal c =
    let p = err_from_is_err_and c.from_residual.result c.from_residual.ensures.1 in
    rw (p.1, p.2)
    (trial-refused _ _ _ _ _ _ c.in_err-trial_refusal.ensures (number-some _))

pub returns : goal.returns
returns c =
    trial-as _ _ _
    (sym c.in_ok-trial_refusal.ensures
    ∙ refl)
    (prepare-reply _) c.trial.ensures

use Rattle.refusal.specs.Refusal.{refusal_number}
use Rattle.dual_module_round.specs.Called.{trial_answer}
use Rattle.dual_module_round.specs.laws.Called.{refusal-told}
use mathlib.Core.Path.{sym, ap, ◌∙◌}
use Rattle.dual_module_round.proofs.trial_answer.Goals as goal

pub returns-in-Ok : goal.returns-in-Ok
unfolding trial_answer
returns-in-Ok c = ap (λ r. trial_answer (refusal_number r)) (sym c.in-Ok.is)

pub returns-in-Err : goal.returns-in-Err
returns-in-Err c = refusal-told _ ∙ ap (λ r. trial_answer (refusal_number r)) (sym c.in-Err.is)

use mathlib.Core.Path.{sym, ap, ◌∙◌}
use Rattle.answers.specs.Outcome.{length_told}
use Rattle.answers.specs.Answer.{is_free}
use Rattle.round_answers.proofs.node_answers.is_free.Goals as goal

pub returns-in-Ok : goal.returns-in-Ok
returns-in-Ok c = c.is_free_length.ensures ∙ ap (λ r. is_free (length_told r)) (sym c.in-Ok.is)

pub returns-in-Err : goal.returns-in-Err
unfolding is_free
returns-in-Err c = ap (λ r. is_free (length_told r)) (sym c.in-Err.is)

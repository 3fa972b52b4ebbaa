use mathlib.Core.Path.{sym, ap, ◌∙◌}
use Rattle.answers.specs.Outcome.{length_told}
use Rattle.calls.specs.Group.{found_as}
use Rattle.calls.specs.Round.{join_free}
use Rattle.round_answers.proofs.node_answers.join_free.Goals as goal

pub returns-in-Ok : goal.returns-in-Ok
returns-in-Ok c = c.join_free_length.ensures ∙ ap (λ r. join_free (found_as c.args.g) (length_told r)) (sym c.in-Ok.is)

pub returns-in-Err : goal.returns-in-Err
unfolding join_free
returns-in-Err c = ap (λ r. join_free (found_as c.args.g) (length_told r)) (sym c.in-Err.is)

use mathlib.Core.Path.{sym, ap}
use Rattle.answers.specs.Outcome.{told_by}
use Rattle.answers.specs.Answer.{is_done}
use Rattle.c_api.specs.Words.{count_numbers}
use Rattle.c_api.specs.laws.Words.{tells_as}
use Rattle.c_api.proofs.answer.tell_counted.Goals as goal

pub returns-in-Ok : goal.returns-in-Ok
returns-in-Ok g c =
    tells_as c.tell_count.ensures
    (ap (λ a. count_numbers (told_by g.R.Numbered.number_of a) c.args.count) (sym c.in-Ok.is))

pub returns-in-Err : goal.returns-in-Err
unfolding count_numbers is_done
returns-in-Err g c =
    tells_as c.tell_refusal.ensures
    (ap (λ a. count_numbers (told_by g.R.Numbered.number_of a) c.args.count) (sym c.in-Err.is))

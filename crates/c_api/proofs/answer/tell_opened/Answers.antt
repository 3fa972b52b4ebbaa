use mathlib.Core.Path.{sym, ap, ◌∙◌}
use Rattle.c_api.specs.Words.{open_numbers, open_number_by}
use Rattle.c_api.specs.laws.Words.{tells_as}
use Rattle.c_api.proofs.answer.tell_opened.Goals as goal

pub returns-in-Ok : goal.returns-in-Ok
returns-in-Ok g c =
    tells_as c.tell_open.ensures
    (ap (λ a. open_numbers (open_number_by g.R.Numbered.number_of a)) (sym c.in-Ok.is))

pub returns-in-Err : goal.returns-in-Err
returns-in-Err g c =
    tells_as c.tell_open-in-Err.ensures
    (ap open_numbers c.to_number.ensures
    ∙ ap (λ a. open_numbers (open_number_by g.R.Numbered.number_of a)) (sym c.in-Err.is))

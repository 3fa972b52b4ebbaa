use mathlib.Core.Path.{sym, ap}
use Rattle.dual_module_gap.specs.Outcome.{gap_by}
use Rattle.c_api.specs.laws.Words.{tells_as}
use Rattle.c_api_gap.specs.Told.{gap_numbers}
use Rattle.c_api_gap.proofs.tell_gap.Goals as goal

pub returns-in-Ok : goal.returns-in-Ok
unfolding gap_numbers
returns-in-Ok g c =
    tells_as c.tell_found.ensures
    (ap (λ a. gap_numbers (gap_by g.R.Numbered.number_of a)) (sym c.in-Ok.is))

pub returns-in-Err : goal.returns-in-Err
unfolding gap_numbers
returns-in-Err g c =
    tells_as c.tell_refusal.ensures
    (ap (λ a. gap_numbers (gap_by g.R.Numbered.number_of a)) (sym c.in-Err.is))

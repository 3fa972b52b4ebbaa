use mathlib.Core.Path.{sym, ap, ◌∙◌}
use mathlib.Core.List.{[], ◌∷◌}
use Rattle.c_api.specs.laws.Words.{tells_as}
use Rattle.c_api.specs.Words.{answer_numbers}
use Rattle.sheet.specs.Outcome.{opened_told}
use Rattle.c_api_sheet.specs.Told.{sheet_numbers}
use Rattle.c_api_sheet.proofs.tell_sheet.Goals as goal

pub returns-in-Ok : goal.returns-in-Ok
unfolding sheet_numbers
returns-in-Ok c = tells_as c.front.ensures (ap (λ a. sheet_numbers (opened_told a)) (sym c.in-Ok.is))

pub returns-in-Err : goal.returns-in-Err
unfolding sheet_numbers answer_numbers
returns-in-Err c =
    tells_as c.front-in-Err.ensures
    (ap (λ k. 11 ∷ k ∷ []) c.number.ensures ∙ ap (λ a. sheet_numbers (opened_told a)) (sym c.in-Err.is))

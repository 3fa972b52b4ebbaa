use mathlib.Core.Path.{sym, ap}
use Rattle.answers.specs.Outcome.{told_by}
use Rattle.answers.specs.Numbers.{answer_numbers}
use Rattle.answers.specs.laws.Numbers.{tells_as}
use Rattle.answers.proofs.tell.Goals as goal

pub returns-in-Ok : goal.returns-in-Ok
returns-in-Ok g c = tells_as c.tell_accepted.ensures (ap (λ a. answer_numbers (told_by g.R.Numbered.number_of a)) (sym c.in-Ok.is))

pub returns-in-Err : goal.returns-in-Err
returns-in-Err g c = tells_as c.tell_refusal.ensures (ap (λ a. answer_numbers (told_by g.R.Numbered.number_of a)) (sym c.in-Err.is))

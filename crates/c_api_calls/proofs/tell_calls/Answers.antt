use mathlib.Core.Path.{sym, ap}
use Rattle.answers.specs.laws.Numbers.{tells_as}
use Rattle.c_api_calls.specs.Outcome.{calls_told}
use Rattle.c_api_calls.specs.Told.{calls_numbers}
use Rattle.c_api_calls.proofs.tell_calls.Goals as goal

pub returns-in-Ok : goal.returns-in-Ok
unfolding calls_numbers
returns-in-Ok c = tells_as c.front.ensures (ap (λ a. calls_numbers (calls_told a)) (sym c.in-Ok.is))

pub returns-in-Err : goal.returns-in-Err
unfolding calls_numbers
returns-in-Err c = tells_as c.tell_refusal.ensures (ap (λ a. calls_numbers (calls_told a)) (sym c.in-Err.is))

-- What a list of calls answers in the definitions, and the number of what refuses every call from some place on.
use Rattle.std.specs.Prelude.{ℕ, Result, Ok, Err, Option, None, Some}
use Rattle.refusal.specs.declared.Refusal.{Refusal}
use Rattle.refusal.specs.Refusal.{number}
use Rattle.c_api_calls.specs.declared.Made.{Made as Counts}

pub data CallsAnswer : Type 0 where
  Made : ℕ → ℕ → CallsAnswer  -- how many calls were made, and how often memory was tested
  Refused : ℕ → CallsAnswer

-- that of what the call hands back
abbrev pub calls_told : Result Counts Refusal → CallsAnswer
calls_told (Ok m) = Made m.calls m.tests
calls_told (Err e) = Refused (number e)

-- 0 where nothing refuses
abbrev pub standing_refusal : Option Refusal → ℕ
standing_refusal None = 0
standing_refusal (Some e) = number e

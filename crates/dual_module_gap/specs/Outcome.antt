-- What is told of an edge in the definitions: its gap, or the number of the refusal.
use Rattle.std.specs.Prelude.{ℕ, Result, Ok, Err}
use Rattle.gap.specs.declared.Gap.{Gap}
use Rattle.refusal.specs.declared.Refusal.{Refusal}
use Rattle.refusal.specs.Refusal.{number}

pub data GapAnswer : Type 0 where
  Found : Gap → GapAnswer
  Refused : ℕ → GapAnswer

-- that of what a call hands back, where f gives the number of what refuses it
abbrev pub gap_by : {R : Type 0} → (R → ℕ) → Result Gap R → GapAnswer
gap_by f (Ok g) = Found g
gap_by f (Err e) = Refused (f e)

-- with the refusals
abbrev pub gap_answer : Result Gap Refusal → GapAnswer
gap_answer a = gap_by number a

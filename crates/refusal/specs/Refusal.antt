-- The number of a refusal (SPECIFICATION 8), and that of a test: 0 where it refuses nothing.
use Rattle.std.specs.Prelude.{ℕ, ◌≡◌, Result, Ok, Err}
use Rattle.std.proofs.Common.{arith}
use Rattle.refusal.specs.declared.Refusal.{Refusal}
use Rattle.refusal.specs.declared.Refusal.TheVariants.{WrongLength, Unsound, NoSuch, OutOfRange, Occupied, InBlossom, NoCircle, NoNodeLeft, StoreShort, PassesWeight, BelowZero, AboveLimit, Unprepared, RoundTooShort, NotOpenable, WeightsStand, NoValue}

abbrev pub number : Refusal → ℕ
number WrongLength = 1
number Unsound = 2
number NoSuch = 3
number OutOfRange = 4
number Occupied = 5
number InBlossom = 6
number NoCircle = 7
number NoNodeLeft = 8
number StoreShort = 9
number PassesWeight = 10
number BelowZero = 11
number AboveLimit = 12
number Unprepared = 13
number RoundTooShort = 14
number NotOpenable = 15
number WeightsStand = 16
number NoValue = 17

-- of what a test answers
abbrev pub refusal_number : {A : Type 0} → Result A Refusal → ℕ
refusal_number (Ok a) = 0
refusal_number (Err e) = number e

-- no refusal has the number 0
pub number-some : (e : Refusal) → number e ≡ 0 → ⊥
number-some WrongLength h = absurd (omega arith)
number-some Unsound h = absurd (omega arith)
number-some NoSuch h = absurd (omega arith)
number-some OutOfRange h = absurd (omega arith)
number-some Occupied h = absurd (omega arith)
number-some InBlossom h = absurd (omega arith)
number-some NoCircle h = absurd (omega arith)
number-some NoNodeLeft h = absurd (omega arith)
number-some StoreShort h = absurd (omega arith)
number-some PassesWeight h = absurd (omega arith)
number-some BelowZero h = absurd (omega arith)
number-some AboveLimit h = absurd (omega arith)
number-some Unprepared h = absurd (omega arith)
number-some RoundTooShort h = absurd (omega arith)
number-some NotOpenable h = absurd (omega arith)
number-some WeightsStand h = absurd (omega arith)
number-some NoValue h = absurd (omega arith)

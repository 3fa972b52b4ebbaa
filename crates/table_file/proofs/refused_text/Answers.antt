use mathlib.Core.Path.{◌≡◌, refl}
use native.Mathlib.Omega.{arith}
use borrow.Author.Tests.{ne_eqb}
use Rattle.refusal.specs.declared.Refusal.{Refusal}
use Rattle.refusal.specs.declared.Refusal.TheVariants.{WrongLength, Unsound, NoSuch, OutOfRange, Occupied, InBlossom, NoCircle, NoNodeLeft, StoreShort, PassesWeight, BelowZero, AboveLimit, Unprepared, RoundTooShort, NotOpenable, WeightsStand, NoValue}
use Rattle.refusal.specs.Refusal.{number}
use Rattle.table_file.specs.File.{verdict_text}
use Rattle.table_file.proofs.refused_text.Goals as goal

-- no other refusal has its number
only-four : (e : Refusal) → number e ≡ 4 → e ≡ OutOfRange
only-four WrongLength h = absurd (omega arith)
only-four Unsound h = absurd (omega arith)
only-four NoSuch h = absurd (omega arith)
only-four OutOfRange h = refl
only-four Occupied h = absurd (omega arith)
only-four InBlossom h = absurd (omega arith)
only-four NoCircle h = absurd (omega arith)
only-four NoNodeLeft h = absurd (omega arith)
only-four StoreShort h = absurd (omega arith)
only-four PassesWeight h = absurd (omega arith)
only-four BelowZero h = absurd (omega arith)
only-four AboveLimit h = absurd (omega arith)
only-four Unprepared h = absurd (omega arith)
only-four RoundTooShort h = absurd (omega arith)
only-four NotOpenable h = absurd (omega arith)
only-four WeightsStand h = absurd (omega arith)
only-four NoValue h = absurd (omega arith)

pub returns-in-OutOfRange : goal.returns-in-OutOfRange
unfolding verdict_text
returns-in-OutOfRange c = rw c.in-OutOfRange.is

pub returns-in_default : goal.returns-in_default
unfolding verdict_text
returns-in_default c = rw (ne_eqb (number c.args.refusal) 4 (λ q. c.in_default.not-OutOfRange (only-four _ q)))

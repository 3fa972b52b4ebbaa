-- What the length of all active nodes answers in the definitions: a length, what stands in the way, or the number of the refusal.
use Rattle.std.specs.Prelude.{ℕ, ℤ, Bool, Result, Ok, Err}
use Rattle.calls.specs.declared.group.GroupMaxUpdateLength.{GroupMaxUpdateLength as Found}
use Rattle.calls.specs.declared.group.GroupMaxUpdateLength.TheVariants as Finds
use Rattle.refusal.specs.declared.Refusal.{Refusal}
use Rattle.refusal.specs.Refusal.{number}

pub data GroupMaxUpdateLength : Type 0 where
  NonZeroGrow : ℤ → Bool → GroupMaxUpdateLength
  Unlimited : Bool → GroupMaxUpdateLength
  Conflicts : ℕ → ℕ → GroupMaxUpdateLength
  Refused : ℕ → GroupMaxUpdateLength

-- that of an answer which is no refusal
abbrev pub found_as : Found → GroupMaxUpdateLength
found_as (Finds.NonZeroGrow l e) = NonZeroGrow l e
found_as (Finds.Unlimited e) = Unlimited e
found_as (Finds.Conflicts k j) = Conflicts k j

-- that of what the call hands back
abbrev pub group_told : Result Found Refusal → GroupMaxUpdateLength
group_told (Ok g) = found_as g
group_told (Err e) = Refused (number e)

-- What is known of lent memory from one call to the next.
use Rattle.std.specs.Prelude.{◌≡◌, Bool, true, List, length, ℤ}
use Rattle.pass.specs.Scratch.{zero_scratch}

-- where it is said so, the scratch is all zero
abbrev pub KnownZero : Bool → List ℤ → Type 0
KnownZero zero t = zero ≡ true → t ≡ zero_scratch (length t)

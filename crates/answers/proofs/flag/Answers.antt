use Rattle.std.specs.Prelude.{◌≡◌, ◌≤◌, ℕ, Bool, true, false, refl}
use native.Mathlib.Omega.{arith}
use mir.Val.{bool_byte}
use Rattle.answers.specs.Answer.{flag}
use Rattle.answers.proofs.flag.Goals as goal

-- the byte of a test is its flag
byte-flag : (e : Bool) → (bool_byte e ≡ flag e) × (bool_byte e ≤ 1)
unfolding flag
byte-flag true = (refl, omega arith)
byte-flag false = (refl, omega arith)

pub returns : goal.returns
returns c = rw c.from.ensures (byte-flag c.args.e)

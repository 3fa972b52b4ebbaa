-- Another pass is called for where it was already, or is now.
use Rattle.std.specs.Prelude.{ℕ, ◌≡◌, refl, Bool, true, false, ◌||◌}
use Rattle.pass.specs.inner.Another.{called, called_if}

or-true : (a : Bool) → true ≡ a || true
or-true true = refl
or-true false = refl

or-false : (a : Bool) → a ≡ a || false
or-false true = refl
or-false false = refl

pub called-if : (z : Bool) (x : ℕ) → called (called_if z x) ≡ called x || z
unfolding called_if called
called-if true x = or-true (called x)
called-if false x = or-false (called x)

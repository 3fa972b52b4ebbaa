-- Whether another pass is called for, as a number: 0 for no.
use Rattle.std.specs.Prelude.{ℕ, Bool, not, eqb, if◌then◌else◌}

-- a number that is not 0 calls for another pass
unfoldable pub called : ℕ → Bool
called x = not (eqb x 0)

-- x, or 1 where z calls for another pass
unfoldable pub called_if : Bool → ℕ → ℕ
called_if z x = if z then 1 else x

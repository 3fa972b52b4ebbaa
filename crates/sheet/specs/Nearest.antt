-- The whole number nearest to a fraction, halves upward, without fractions: both are taken times the divisor.
use Rattle.std.specs.Prelude.{ℕ, ◌+◌, ◌-◌, ◌*◌, ◌≤◌, ◌≡◌}
use Rattle.std.proofs.Common.{arith}

-- how far two numbers are apart: one of the two differences is 0
abbrev pub apart : ℕ → ℕ → ℕ
apart x y = (x - y) + (y - x)

pub apart_from : (x y : ℕ) → x ≤ y → (x + apart x y ≡ y) × (x + apart y x ≡ y)
apart_from x y h = (omega arith, omega arith)

-- k is the whole number nearest to x / m: none is nearer, and of those that are as near it is the upper one
pub record NearestUpward (x m k : ℕ) : Type 0 where
  pub nearest : (j : ℕ) → apart (m * k) x ≤ apart (m * j) x
  pub upward : (j : ℕ) → apart (m * j) x ≡ apart (m * k) x → j ≤ k

-- The weight that a value of a calibration sheet becomes.
use Rattle.std.specs.Prelude.{ℕ, ◌+◌, ◌*◌, ◌/◌}

-- the whole number nearest to 500,000 t / m, halves upward
unfoldable pub half_weight : ℕ → ℕ → ℕ
half_weight m t = (1_000_000 * t + m) / (2 * m)

-- the weight of the value t where m is the largest: twice that number
unfoldable pub scaled : ℕ → ℕ → ℕ
scaled m t = 2 * half_weight m t

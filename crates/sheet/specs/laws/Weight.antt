-- The weight of a value: how near it is to 1,000,000 t / m, its order, the largest, and when it is 0.
use Rattle.std.specs.Prelude.{ℕ, ◌+◌, ◌*◌, ◌/◌, ◌≤◌, ◌<◌, ◌≡◌, ◌↔◌}
use native.Mathlib.Omega.{arith}
use Rattle.std.proofs.Math.Nat.{lt-mul-div-succ, mul-div-le, mul_assoc, mul-add, mul-zero, mul-le-mul_right, div-eq_of_lt-le}
use Rattle.std.proofs.Common.{mul_comm, ◌∙◌}
use Rattle.std.proofs.Math.Path.{sym, ap}
use Rattle.std.specs.Float.Ieee.Nearest.{div_mono}
use Rattle.sheet.specs.Weight.{half_weight, scaled}
use Rattle.sheet.specs.Nearest.{NearestUpward}
use Rattle.sheet.specs.laws.Nearest.{nearest-between, nearest-one}

module _ (m : ℕ) (some : 0 < m) where
  -- between 500,000 t - m / 2 and 500,000 t + m / 2, the lower end left out
  half-between : (t : ℕ) → (2 * (m * half_weight m t) ≤ 1_000_000 * t + m) × (1_000_000 * t < 2 * (m * half_weight m t) + m)
  unfolding half_weight
  half-between t =
      let x = 1_000_000 * t + m in
      let q = x / (2 * m) in
      let lo : 2 * m * q ≤ x = mul-div-le x (2 * m) in
      let hi : x < 2 * m * (q + 1) = lt-mul-div-succ x (omega arith) in
      let more : 2 * m * (q + 1) ≡ 2 * m * q + 2 * m * 1 = mul-add (2 * m) q 1 in
      let same : 2 * m * q ≡ 2 * (m * q) = mul_assoc 2 m q in
      (omega arith, omega arith)

  pub half-nearest : (t : ℕ) → NearestUpward (500_000 * t) m (half_weight m t)
  half-nearest t = let h = half-between t in nearest-between (500_000 * t) m (half_weight m t) (omega arith) (omega arith)

  -- and no other number is
  pub twice-nearest : (t k : ℕ) → (scaled m t ≡ 2 * k) ↔ NearestUpward (500_000 * t) m k
  unfolding scaled
  twice-nearest t k = (
    λ e. let z : half_weight m t ≡ k = omega (arith, e) in rw z at (half-nearest t),
    λ n. ap (λ i. 2 * i) (nearest-one (half-nearest t) n),
  )

  pub between : (t k : ℕ) → scaled m t ≡ 2 * k → (2 * (m * k) ≤ 1_000_000 * t + m) × (1_000_000 * t < 2 * (m * k) + m)
  unfolding scaled
  between t k e = let z : half_weight m t ≡ k = omega (arith, e) in rw (← z) (half-between t)

  scaled-times : (t : ℕ) → m * scaled m t ≡ 2 * (m * half_weight m t)
  unfolding scaled
  scaled-times t = sym (mul_assoc m 2 (half_weight m t)) ∙ rw (mul_comm m 2) (mul_assoc 2 m (half_weight m t))

  pub near : (t : ℕ) → (m * scaled m t ≤ 1_000_000 * t + m) × (1_000_000 * t ≤ m * scaled m t + m)
  near t =
      let h = half-between t in
      let e = scaled-times t in
      (omega arith, omega arith)

  pub rises : (t u : ℕ) → t ≤ u → scaled m t ≤ scaled m u
  unfolding scaled half_weight
  rises t u h =
      let k : (1_000_000 * t + m) * (2 * m) ≤ (1_000_000 * u + m) * (2 * m) = mul-le-mul_right (2 * m) (omega arith) in
      let d = div_mono (1_000_000 * t + m) (2 * m) (1_000_000 * u + m) (2 * m) (omega arith) (omega arith) k in
      omega (arith, d)

  pub of-largest : scaled m m ≡ 1_000_000
  unfolding scaled half_weight
  of-largest =
      let d : (1_000_000 * m + m) / (2 * m) ≡ 500_000 = div-eq_of_lt-le (2 * m) (omega arith) (omega arith) in
      omega (arith, d)

  pub half_at_most : (t : ℕ) → t ≤ m → half_weight m t ≤ 500_000
  unfolding scaled
  half_at_most t h = let d = rises t m h in omega (arith, d, of-largest)

  pub at_most : (t : ℕ) → t ≤ m → scaled m t ≤ 1_000_000
  at_most t h = let d = rises t m h in omega (arith, d, of-largest)

  zero-below : (t : ℕ) → scaled m t ≡ 0 → 1_000_000 * t < m
  unfolding scaled
  zero-below t e =
      let z : m * half_weight m t ≡ m * 0 = ap (λ k. m * k) (omega arith) in
      let h = half-between t in
      omega (arith, mul-zero m)

  below-zero : (t : ℕ) → 1_000_000 * t < m → scaled m t ≡ 0
  unfolding scaled half_weight
  below-zero t h = let d : (1_000_000 * t + m) / (2 * m) ≡ 0 = div-eq_of_lt-le (2 * m) (omega arith) (omega arith) in omega (arith, d)

  pub zero-exactly : (t : ℕ) → (scaled m t ≡ 0) ↔ (1_000_000 * t < m)
  zero-exactly t = (zero-below t, below-zero t)

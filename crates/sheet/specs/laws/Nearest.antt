-- The nearest whole number: by its bounds, and there is one only.
use Rattle.std.specs.Prelude.{ℕ, ◌+◌, ◌*◌, ◌≤◌, ◌<◌, ◌≡◌}
use Rattle.std.proofs.Common.{arith, mul-add, mul-le-mul_left, ap}
use Rattle.std.proofs.Math.Decide.{dec_lt}
use Rattle.sheet.specs.Nearest.{apart, NearestUpward}

-- a greater factor is at least m further
times-next : (m j k : ℕ) → j < k → m * j + m ≤ m * k
times-next m j k h =
    let a : m * (j + 1) ≤ m * k = mul-le-mul_left m (omega arith) in
    let b : m * (j + 1) ≡ m * j + m * 1 = mul-add m j 1 in
    omega arith

-- between k - 1/2, which counts, and k + 1/2, which doesn't
pub nearest-between : (x m k : ℕ) → 2 * (m * k) ≤ 2 * x + m → 2 * x < 2 * (m * k) + m → NearestUpward x m k
nearest-between x m k lo hi = record { nearest = λ j. (as-near j).0; upward = λ j e. (as-near j).1 e }
  where
    as-near : (j : ℕ) → (apart (m * k) x ≤ apart (m * j) x) × (apart (m * j) x ≡ apart (m * k) x → j ≤ k)
    as-near j =
        elim (dec_lt j k) [
          | yes p ↦ let d = times-next m j k p in (omega arith, λ e. omega arith)
          | no p ↦ elim (dec_lt k j) [
            | yes q ↦ let d = times-next m k j q in (omega arith, λ e. absurd (omega arith))
            | no q ↦ let z : m * j ≡ m * k = ap (λ i. m * i) (omega arith) in (omega arith, λ e. omega arith)
          ]
        ]

pub nearest-one : {x m j k : ℕ} → NearestUpward x m j → NearestUpward x m k → j ≡ k
nearest-one {x} {m} {j} {k} p q =
    let a = p.nearest k in
    let b = q.nearest j in
    let e : apart (m * j) x ≡ apart (m * k) x = omega arith in
    let f : apart (m * k) x ≡ apart (m * j) x = omega arith in
    let c = q.upward j e in
    let d = p.upward k f in
    omega arith

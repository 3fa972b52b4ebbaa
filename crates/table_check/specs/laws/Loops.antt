-- Marks that spread, step by step.
use Prim.Native.Nat.{ℕ, suc, ◌+◌, ◌-◌, ◌*◌, ◌≤◌, ◌<◌}
use native.Mathlib.Omega.{arith}
use Rattle.std.proofs.Common.{add-one}
use Rattle.std.specs.Prelude.{◌≡◌, refl, Bool, true, false, List, ℤ}
use Rattle.table_check.specs.Tests.{spreads_at, spread_side, spread_sides, spread_new, spread_until}

module _ (edges : List ℤ) (m : List ℕ) where
  pub spread_none : (false ≡ spread_new edges m 0) × (m ≡ spread_sides edges m 0)
  unfolding spread_new spread_sides
  spread_none = (refl, refl)

  pub spread-more : (k : ℕ) {x y : List ℕ} → x ≡ spread_sides edges m k → y ≡ spread_side edges x k → y ≡ spread_sides edges m (k + 1)
  unfolding spread_sides
  spread-more k e h = rw (add-one, ← e) h

  pub spread-new : (k : ℕ) {x : List ℕ} → x ≡ spread_sides edges m k → spreads_at x edges k ≡ true → true ≡ spread_new edges m (k + 1)
  unfolding spread_new
  spread-new k e h = rw (add-one, ← e, h)

  pub spread-old : (k : ℕ) {x : List ℕ} {t : Bool} → x ≡ spread_sides edges m k → spreads_at x edges k ≡ false → t ≡ spread_new edges m k
      → t ≡ spread_new edges m (k + 1)
  unfolding spread_new
  spread-old k e h q = rw (add-one, ← e, h) q

-- ---- again and again

module _ (e : ℕ) (edges : List ℤ) (v n : ℕ) (m m' : List ℕ) where
  -- what is left gives the whole
  pub until-more : n < v → m' ≡ spread_sides edges m (2 * e) → spread_new edges m (2 * e) ≡ true
      → spread_until e edges (v - (n + 1)) m' ≡ spread_until e edges (v - n) m
  unfolding spread_until
  until-more h q t = let l : v - n ≡ suc (v - (n + 1)) = omega arith in rw (l, spread_until, t, ← q)

  pub until-ends : n < v → m' ≡ spread_sides edges m (2 * e) → spread_new edges m (2 * e) ≡ false → m' ≡ spread_until e edges (v - n) m
  unfolding spread_until
  until-ends h q t = let l : v - n ≡ suc (v - (n + 1)) = omega arith in rw (l, spread_until, t) q

  pub until-over : v ≤ n → m ≡ spread_until e edges (v - n) m
  unfolding spread_until
  until-over h = let l : v - n ≡ 0 = omega arith in rw (l, spread_until)

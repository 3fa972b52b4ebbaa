-- Tests of a signed number against a limit, and its cast where it is in range, as the machine reads it back from its bits.
use Prim.Native.Nat.{ℕ, suc, ◌-◌, ◌<◌}
use native.Mathlib.Omega.{arith}
use mathlib.Core.Path.{◌≡◌, refl}
use mathlib.Core.Bool.{Bool, true, false, ◌&&◌}
use borrow.Author.Tests.{lt-leb, le-leb, le-ltb, ne_eqb}
use lib.IntN.{ℤ, pos, negsuc, nat_abs}
use lib.Dec.{T, leb, ltb, eqb}
use lib.Signed.{le_z, lt_z, non_neg}
use mir.Syntax.{w64}
use mir.Val.{Fits, SFits, to_z, of_z}
use mir.Facts.{to_z-of_z}
use Rattle.graph.specs.Word.{to_nat}

most : (z : ℤ) (m : ℕ) → m < 9223372036854775807 → le_z (pos 0) z && le_z z (pos m) ≡ leb (to_nat z) m
unfolding to_nat
most (pos n) m h = rw (le-leb 0 n (omega arith))
most (negsuc n) m h = rw (lt-leb 9223372036854775807 m h)

under : (z : ℤ) (m : ℕ) → m < 9223372036854775807 → le_z (pos 0) z && lt_z z (pos m) ≡ ltb (to_nat z) m
unfolding to_nat
under (pos n) m h = rw (le-leb 0 n (omega arith))
under (negsuc n) m h = rw (le-ltb 9223372036854775807 m (omega arith))

amid : (z : ℤ) (a m : ℕ) → m < 9223372036854775807 → le_z (pos a) z && le_z z (pos m) ≡ leb a (to_nat z) && leb (to_nat z) m
unfolding to_nat
amid (pos n) a m h = refl
amid (negsuc n) a m h = rw (lt-leb 9223372036854775807 m h) (none (leb a 9223372036854775807))
  where
    none : (t : Bool) → false ≡ t && false
    none true = refl
    none false = refl

-- equal numbers have equal bits, and those of a number below zero are no small number's
alike : (z : ℤ) (m : ℕ) → SFits w64 z → m < 9223372036854775807 → eqb (of_z w64 z) m ≡ eqb (to_nat z) m
unfolding to_nat
alike (pos n) m f h = refl
alike (negsuc n) m f h =
    rw (
      ne_eqb (18446744073709551616 - suc n) m (λ e. omega (arith, f.sfits, e)),
      ne_eqb 9223372036854775807 m (λ e. omega (arith, e)),
    )

asks : (z : ℤ) → to_nat z < 9223372036854775807 → T (non_neg z) × Fits w64 (nat_abs z)
unfolding to_nat
asks (pos n) h = (tt, record { fits = omega arith })
asks (negsuc n) h = absurd (omega arith)

value : (z : ℤ) → to_nat z < 9223372036854775807 → nat_abs z ≡ to_nat z
unfolding to_nat
value (pos n) h = refl
value (negsuc n) h = absurd (omega arith)

module _ (z : ℤ) (h : SFits w64 z) where
  module _ (m : ℕ) (w : ℤ) (f : SFits w64 w) (e : w ≡ pos m) (k : m < 9223372036854775807) where
    pub read-most : le_z (pos 0) (to_z w64 (of_z w64 z)) && le_z (to_z w64 (of_z w64 z)) (to_z w64 (of_z w64 w)) ≡ leb (to_nat z) m
    read-most = rw (to_z-of_z h, to_z-of_z f, e) (most z m k)

    pub read_under : le_z (pos 0) (to_z w64 (of_z w64 z)) && lt_z (to_z w64 (of_z w64 z)) (to_z w64 (of_z w64 w)) ≡ ltb (to_nat z) m
    read_under = rw (to_z-of_z h, to_z-of_z f, e) (under z m k)

    pub read-amid : (a : ℕ) (v : ℤ) → SFits w64 v → v ≡ pos a
        → le_z (to_z w64 (of_z w64 v)) (to_z w64 (of_z w64 z)) && le_z (to_z w64 (of_z w64 z)) (to_z w64 (of_z w64 w)) ≡ leb a (to_nat z) && leb (to_nat z) m
    read-amid a v g i = rw (to_z-of_z h, to_z-of_z f, to_z-of_z g, e, i) (amid z a m k)

  pub read_same : (m : ℕ) (w : ℤ) → w ≡ pos m → m < 9223372036854775807 → eqb (of_z w64 z) (of_z w64 w) ≡ eqb (to_nat z) m
  read_same m w e k = rw e (alike z m h k)

  pub read-asks : to_nat z < 9223372036854775807 → T (non_neg (to_z w64 (of_z w64 z))) × Fits w64 (nat_abs (to_z w64 (of_z w64 z)))
  read-asks = rw (to_z-of_z h) (asks z)

  pub read-value : to_nat z < 9223372036854775807 → nat_abs (to_z w64 (of_z w64 z)) ≡ to_nat z
  read-value = rw (to_z-of_z h) (value z)

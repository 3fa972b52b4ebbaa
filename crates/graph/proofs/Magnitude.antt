-- -1 - z, by the sign of z; and a number as the machine reads it back from its bits.
use Prim.Native.Nat.{ℕ, zero, suc, ◌+◌, ◌<◌}
use mathlib.Core.Path.{◌≡◌, refl, ap, subst}
use mathlib.Core.Bool.{true, false}
use native.Mathlib.Omega.{arith}
use borrow.Author.Tests.{le-ltb, le-leb, ltb-true}
use lib.Dec.{T}
use lib.IntN.{ℤ, pos, negsuc, ◌-ℤ◌, nat_abs}
use lib.Signed.{lt_z, le_z, non_neg}
use mir.Syntax.{w64}
use mir.Val.{SFits, to_z, of_z}
use mir.Facts.{to_z-of_z}

pub flip-neg : (n : ℕ) → negsuc 0 -ℤ negsuc n ≡ pos n
flip-neg n = rw (le-ltb (suc n) 1 (omega arith)) (ap pos (omega arith))

pub flip-pos : (m : ℕ) → negsuc 0 -ℤ pos m ≡ negsuc m
flip-pos zero = refl
flip-pos (suc k) = ap negsuc (omega arith)

-- what the code of `magnitude` computes from z, z negative: y is -1 - z
pub record Flipped (z y : ℤ) : Type 0 where
  pub is_pos : T (non_neg y)
  pub value : nat_abs y + 1 ≡ nat_abs z
  pub small : nat_abs y < 9223372036854775808
  pub fits : SFits w64 y

flipped : (z : ℤ) → SFits w64 z → lt_z z (pos 0) ≡ true → Flipped z (negsuc 0 -ℤ z)
flipped (pos n) h e = absurd (omega (arith, ltb-true n 0 e))
flipped (negsuc n) h e = rw (flip-neg n) (record { is_pos = tt; value = omega arith; small = h.sfits; fits = record { sfits = h.sfits } })

pub record Plain (z : ℤ) : Type 0 where
  pub is_pos : T (non_neg z)
  pub small : nat_abs z < 9223372036854775808

plain : (z : ℤ) → SFits w64 z → lt_z z (pos 0) ≡ false → Plain z
plain (pos n) h e = record { is_pos = tt; small = h.sfits }
plain (negsuc n) h e = absurd (subst T e tt)

not_neg : (z : ℤ) → le_z (pos 0) z ≡ non_neg z
not_neg (pos n) = le-leb 0 n (omega arith)
not_neg (negsuc n) = refl

-- the same of what the machine reads back
module _ (z : ℤ) (h : SFits w64 z) where
  pub read-flipped : lt_z (to_z w64 (of_z w64 z)) (pos 0) ≡ true → Flipped z (negsuc 0 -ℤ to_z w64 (of_z w64 z))
  read-flipped = rw (to_z-of_z h) (flipped z h)

  pub read_plain : lt_z (to_z w64 (of_z w64 z)) (pos 0) ≡ false → Plain (to_z w64 (of_z w64 z))
  read_plain = rw (to_z-of_z h) (plain z h)

  pub read-non-neg : le_z (pos 0) (to_z w64 (of_z w64 z)) ≡ non_neg z
  read-non-neg = rw (to_z-of_z h) (not_neg z)

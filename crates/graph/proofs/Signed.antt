-- A signed parameter z is held as its bits, so a test or a cast of it speaks of `to_z w64 (of_z w64 z)`, which is z.
-- These laws take the tests `z < 0` and the cast `z as u64` to the definitions of `specs/Word.antt`. Assumes nothing.
use Prim.Native.Nat.{◌<◌}
use mathlib.Core.Path.{◌≡◌, refl, sym, subst}
use mathlib.Core.Bool.{Bool, true, false}
use native.Mathlib.Omega.{arith}
use borrow.Author.Tests.{ltb-true}
use lib.IntN.{ℤ, pos, negsuc, nat_abs}
use lib.Dec.{T}
use lib.Signed.{lt_z, non_neg}
use mir.Syntax.{w64}
use mir.Val.{Fits, SFits, to_z, of_z}
use mir.Facts.{to_z-of_z}
use Rattle.graph.specs.Word.{to_nat}

no_true : {X : Type 0} → ◌≡◌ {A = Bool} false true → X
no_true e = absurd (subst T (sym e) tt)

no_false : {X : Type 0} → ◌≡◌ {A = Bool} true false → X
no_false e = absurd (subst T e tt)

-- what the cast asks, of the number itself
asks : (z : ℤ) → SFits w64 z → lt_z z (pos 0) ≡ false → T (non_neg z) × Fits w64 (nat_abs z)
asks (pos n) h e = (tt, record { fits = omega (arith, h.sfits) })
asks (negsuc n) h e = no_false e

as-nat : (z : ℤ) → lt_z z (pos 0) ≡ false → nat_abs z ≡ to_nat z
unfolding to_nat
as-nat (pos n) e = refl
as-nat (negsuc n) e = no_false e

small : (z : ℤ) → SFits w64 z → lt_z z (pos 0) ≡ false → nat_abs z < 9223372036854775808
small (pos n) h e = h.sfits
small (negsuc n) h e = no_false e

neg-nat : (z : ℤ) → lt_z z (pos 0) ≡ true → 9223372036854775807 ≡ to_nat z
unfolding to_nat
neg-nat (pos n) e = absurd (omega (arith, ltb-true n 0 e))
neg-nat (negsuc n) e = refl

-- the same of what the machine reads back from the bits of z
module _ (z : ℤ) (h : SFits w64 z) where
  pub cast-asks : lt_z (to_z w64 (of_z w64 z)) (pos 0) ≡ false → T (non_neg (to_z w64 (of_z w64 z))) × Fits w64 (nat_abs (to_z w64 (of_z w64 z)))
  cast-asks = rw (to_z-of_z h) (asks z h)

  pub read-nat : lt_z (to_z w64 (of_z w64 z)) (pos 0) ≡ false → nat_abs (to_z w64 (of_z w64 z)) ≡ to_nat z
  read-nat = rw (to_z-of_z h) (as-nat z)

  pub read-neg : lt_z (to_z w64 (of_z w64 z)) (pos 0) ≡ true → 9223372036854775807 ≡ to_nat z
  read-neg = rw (to_z-of_z h) (neg-nat z)

  pub read_small : lt_z (to_z w64 (of_z w64 z)) (pos 0) ≡ false → nat_abs (to_z w64 (of_z w64 z)) < 9223372036854775808
  read_small = rw (to_z-of_z h) (small z h)

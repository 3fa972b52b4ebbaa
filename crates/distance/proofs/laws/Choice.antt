-- A choice by a test.
use Rattle.std.specs.Prelude.{Bool, true, false, not, ◌≢◌, ℕ, T, eqb}
use Rattle.std.proofs.Common.{T_not}
use Rattle.std.proofs.Math.Dec.{eqb_refl}

-- what holds of both branches holds of the choice
pub choice-by : {X : Type 0} (b : Bool) (P : X → Type 0) (x y : X) → (T b → P x) → (T (not b) → P y) → P (elim b [ true ↦ x | false ↦ y ])
choice-by true P x y p q = p tt
choice-by false P x y p q = q tt

-- two numbers that fail the test for equality
pub not_equal : (m n : ℕ) → T (not (eqb m n)) → m ≢ n
not_equal m n t e = T_not (eqb m n) t (rw e (eqb_refl n))

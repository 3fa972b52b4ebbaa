use native.Mathlib.Omega.{arith}
use Prim.Native.Nat.{ℕ, zero, suc, ◌<◌, ◌-◌}
use mathlib.Core.Path.{◌≡◌, refl, sym, ap, ◌∙◌}
use lib.IntN.{pos, negsuc, ◌-ℤ◌}
use mir.Syntax.{w64}
use mir.Val.{SFits, to_z}
use mir.Facts.{to_z_pos, to_z-of_z}
use Rattle.update_length.specs.inner.Length.{zero_length}
use Rattle.update_length.specs.laws.Length.{length_up, length-down}
use Rattle.update_length.proofs.lengths.signed.Goals as goal

-- −1 − k

minus_one : (k : ℕ) → negsuc 0 -ℤ pos k ≡ negsuc k
minus_one zero = refl
minus_one (suc k) = ap negsuc (omega arith)

below : (x : ℕ) → x < zero_length → negsuc 0 -ℤ to_z w64 (zero_length - x - 1) ≡ negsuc (zero_length - suc x)
below x h =
    let e : zero_length - x - 1 ≡ zero_length - suc x = omega arith in
    rw (to_z_pos w64 {n = zero_length - x - 1} (omega arith)) (minus_one (zero_length - x - 1) ∙ ap negsuc e)

fits : (x : ℕ) → x < zero_length → SFits w64 (negsuc 0 -ℤ to_z w64 (zero_length - x - 1))
fits x h = rw (below x h) (record { sfits = omega arith })

pub overflow_sub-result-else-x-ge-ZERO-3 : goal.overflow_sub-result-else-x-ge-ZERO-3
overflow_sub-result-else-x-ge-ZERO-3 c = fits c.args.x (omega arith)

pub returns-then-x-ge-ZERO : goal.returns-then-x-ge-ZERO
returns-then-x-ge-ZERO c = to_z_pos w64 (omega (arith, c.requires)) ∙ sym (length_up c.args.x c.if-x-ge-ZERO.true)

pub returns-else-x-ge-ZERO : goal.returns-else-x-ge-ZERO
returns-else-x-ge-ZERO c =
    let h : c.args.x < zero_length = omega arith in
    to_z-of_z (fits c.args.x h) ∙ below c.args.x h ∙ sym (length-down c.args.x h)

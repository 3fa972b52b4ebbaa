-- Four entries of a list at once: one more step of a loop, or one that fails.
use Rattle.std.specs.Prelude.{ℕ, ◌+◌, ◌<◌, ◌≡◌, Bool, false, ◌&&◌, List, length, get_or, take}
use native.Mathlib.Omega.{arith}
use Rattle.std.proofs.Math.Bool.{true}
use Rattle.graph.specs.Basic.{all}
use Rattle.graph.specs.laws.Members.{by-test}
use Rattle.graph.specs.laws.State.{and_left, and_right}
use Rattle.graph.specs.laws.Scan.{list-more, list-fails}
use Rattle.node_tests.specs.inner.Four.{four}

module _ (p : ℕ → Bool) (l : List ℕ) (i : ℕ) (h : i + 3 < length l) where
  pub four-more : all p (take i l) ≡ true → four p l i ≡ true → all p (take (i + 4) l) ≡ true
  unfolding four
  four-more a e =
      let x = p (get_or l i 0) in
      let y = p (get_or l (i + 1) 0) in
      let z = p (get_or l (i + 2) 0) in
      let w = p (get_or l (i + 3) 0) in
      let e₃ = and_left (x && y && z) w e in
      let e₂ = and_left (x && y) z e₃ in
      let one : all p (take (i + 1) l) ≡ true = list-more p l i 0 (omega (arith, h)) a (and_left x y e₂) in
      let s₂ : i + 1 + 1 ≡ i + 2 = omega arith in
      let two : all p (take (i + 2) l) ≡ true = rw s₂ at (list-more p l (i + 1) 0 (omega (arith, h)) one (and_right x y e₂)) in
      let s₃ : i + 2 + 1 ≡ i + 3 = omega arith in
      let three : all p (take (i + 3) l) ≡ true = rw s₃ at (list-more p l (i + 2) 0 (omega (arith, h)) two (and_right (x && y) z e₃)) in
      let s₄ : i + 3 + 1 ≡ i + 4 = omega arith in
      rw s₄ at (list-more p l (i + 3) 0 h three (and_right (x && y && z) w e))

  pub four-fails : four p l i ≡ false → all p l ≡ false
  unfolding four
  four-fails e =
      by-test (p (get_or l i 0))
      (λ x.
      by-test (p (get_or l (i + 1) 0))
      (λ y.
      by-test (p (get_or l (i + 2) 0))
      (λ z. list-fails p l (i + 3) 0 h (rw (x, y, z) at e))
      (λ z. list-fails p l (i + 2) 0 (omega (arith, h)) z))
      (λ y. list-fails p l (i + 1) 0 (omega (arith, h)) y))
      (λ x. list-fails p l i 0 (omega (arith, h)) x)

-- How many entries pass a test: counted from the front; none; the same by two tests.
use Prim.Native.Nat.{ℕ, zero, suc, ◌+◌, ◌≤◌, ◌<◌}
use Rattle.std.proofs.Common.{arith, add-one, drop_of_length-le, drop-cons}
use Rattle.std.specs.Prelude.{◌≡◌, Bool, true, false, length, get_or, drop}
use Rattle.std.proofs.Math.Path.{refl}
use mathlib.Core.List.{List, [], ◌∷◌}
use Rattle.graph.specs.Basic.{only}
use Rattle.graph.specs.laws.Members.{by-test}

module _ (p : ℕ → Bool) (l : List ℕ) where
  -- k of the first i pass it, and the others that do are still to come
  abbrev pub Counting : ℕ → ℕ → Type 0
  Counting i k = k + length (only p (drop i l)) ≡ length (only p l)

  pub counting-none : Counting 0 0
  counting-none = omega arith

  pub counting-all : (i k : ℕ) → length l ≤ i → Counting i k → k ≡ length (only p l)
  unfolding only
  counting-all i k h c = let z = rw (drop_of_length-le l {i = i} h) at c in omega (arith, z)

  module _ (i k : ℕ) (h : i < length l) (c : Counting i k) where
    pub counted : p (get_or l i 0) ≡ true → Counting (i + 1) (k + 1)
    unfolding only
    counted e = let z = rw (drop-cons l i 0 h, e) at c in rw (add-one i) (omega (arith, z))

    pub passed_over : p (get_or l i 0) ≡ false → Counting (i + 1) k
    unfolding only
    passed_over e = let z = rw (drop-cons l i 0 h, e) at c in rw (add-one i) z

module _ (p : ℕ → Bool) where
  -- none does exactly when each fails
  pub none_passes : (l : List ℕ) (i : ℕ) → length (only p l) ≡ 0 → i < length l → p (get_or l i 0) ≡ false
  unfolding only
  none_passes [] i e h = absurd (omega arith)
  none_passes (x ∷ l) zero e h = by-test (p x) (λ t. absurd (let z = rw t at e in omega (arith, z))) (λ t. t)
  none_passes (x ∷ l) (suc i) e h =
      by-test (p x) (λ t. absurd (let z = rw t at e in omega (arith, z))) (λ t. none_passes l i (rw t at e) (omega arith))

  pub all-fail : (l : List ℕ) → ((i : ℕ) → i < length l → p (get_or l i 0) ≡ false) → ◌≡◌ {A = ℕ} (length (only p l)) 0
  unfolding only
  all-fail [] f = refl
  all-fail (x ∷ l) f = rw (f 0 (omega arith)) (all-fail l (λ i h. f (suc i) (omega arith)))

  -- two tests that agree on every entry
  pub only_same : (q : ℕ → Bool) (l : List ℕ) → ((i : ℕ) → i < length l → p (get_or l i 0) ≡ q (get_or l i 0)) → only p l ≡ only q l
  unfolding only
  only_same q [] f = refl
  only_same q (x ∷ l) f = rw (f 0 (omega arith), only_same q l (λ i h. f (suc i) (omega arith))) refl

-- Which vertices have marks.
use Prim.Native.Nat.{ℕ, zero, suc, ◌≤◌, ◌<◌}
use native.Mathlib.Omega.{arith}
use Rattle.std.proofs.Math.Decide.{ℕ_discrete}
use Rattle.std.specs.Prelude.{◌≡◌, Bool, true, false, get_or, set, take, drop, replicate}
use Rattle.std.proofs.Math.Path.{refl}
use Rattle.std.proofs.Common.{sym, ap, ◌∙◌, length-set, get_or-set_other, lt-ltb, ltb-true}
use Rattle.std.proofs.Math.Logic.{by_cases}
use mathlib.Core.List.{List, [], ◌∷◌}
use Rattle.std.proofs.Math.ListN.{length}
use Rattle.std.proofs.Math.Seq.{get_or-set_same}
use Rattle.graph.specs.laws.Members.{by-test, clash}
use Rattle.graph.specs.laws.Opened.{get_d-zeros}
use Rattle.distance.specs.Reach.{HasMark}
use Rattle.table_words.specs.Sides.{marked, mark_if, marks_by}

pub marked-has : (m : List ℕ) (u : ℕ) → marked m u ≡ true → HasMark m u
marked-has m u h = ltb-true 0 (get_or m u 0) h

pub has-marked : (m : List ℕ) (u : ℕ) → HasMark m u → marked m u ≡ true
has-marked m u h = lt-ltb 0 (get_or m u 0) h

pub not-marked : (m : List ℕ) (u : ℕ) → marked m u ≡ false → ¬ HasMark m u
not-marked m u h k = clash (marked m u) (has-marked m u k) h

pub no-marks : {P : Type 0} (n u : ℕ) → HasMark (replicate n 0) u → P
no-marks n u h = absurd (omega (arith, get_d-zeros n u))

-- a part of zeros
pub zeros-part : (n v : ℕ) → v ≤ n → take v (drop 0 (replicate n 0)) ≡ replicate {A = ℕ} v 0
zeros-part n zero h = refl
zeros-part zero (suc v) h = absurd (omega arith)
zeros-part (suc n) (suc v) h = ap (λ (l : List ℕ). 0 ∷ l) (zeros-part n v (omega arith))

-- ---- one mark

module _ (t : Bool) (m : List ℕ) (u : ℕ) where
  pub mark-length : length (mark_if t m u) ≡ length m
  unfolding mark_if
  mark-length = by-test t (λ e. rw e (length-set m u 1)) (λ e. rw e)

  pub mark-there : t ≡ true → u < length m → HasMark (mark_if t m u) u
  unfolding mark_if
  mark-there e h = rw (e, get_or-set_same m u 1 0 h) (omega arith)

  pub mark-kept : (a : ℕ) → HasMark m a → HasMark (mark_if t m u) a
  unfolding mark_if
  mark-kept a h = by-test t (λ e. rw e (by_cases (ℕ_discrete a u) (λ q. rw q (here (inside m a h) q)) (λ q. rw (get_or-set_other m u a 1 0 q) h))) (λ e. rw e h)
    where
      inside : (m : List ℕ) (a : ℕ) → HasMark m a → a < length m
      inside [] a k = absurd (omega arith)
      inside (x ∷ m) zero k = omega arith
      inside (x ∷ m) (suc a) k = omega (arith, inside m a k)

      here : a < length m → a ≡ u → HasMark (set m u 1) u
      here l q = rw (get_or-set_same m u 1 0 (omega arith)) (omega arith)

  pub mark-from : {P : Type 0} (a : ℕ) → HasMark (mark_if t m u) a → (HasMark m a → P) → (t ≡ true → u ≡ a → P) → P
  unfolding mark_if
  mark-from a h old new =
      by-test t
      (λ e. by_cases (ℕ_discrete a u) (λ q. new e (sym q)) (λ q. old (rw (get_or-set_other m u a 1 0 q) at (rw e at h))))
      (λ e. old (rw e at h))

-- ---- marks by a test

module _ (p : ℕ → Bool) (at : ℕ → ℕ) (m : List ℕ) where
  pub marks-length : (k : ℕ) → length (marks_by p at m k) ≡ length m
  unfolding marks_by
  marks-length zero = refl
  marks-length (suc k) = mark-length (p k) (marks_by p at m k) (at k) ∙ marks-length k

  pub marks-kept : (k u : ℕ) → HasMark m u → HasMark (marks_by p at m k) u
  unfolding marks_by
  marks-kept zero u h = h
  marks-kept (suc k) u h = mark-kept (p k) (marks_by p at m k) (at k) u (marks-kept k u h)

  pub marks-there : (k s : ℕ) → s < k → p s ≡ true → at s < length m → HasMark (marks_by p at m k) (at s)
  unfolding marks_by
  marks-there zero s l e h = absurd (omega arith)
  marks-there (suc k) s l e h =
      by_cases (ℕ_discrete s k)
      (λ q. rw q (mark-there (p k) (marks_by p at m k) (at k) (rw q at e) (rw (marks-length k) (rw q at h))))
      (λ q. mark-kept (p k) (marks_by p at m k) (at k) (at s) (marks-there k s (omega arith) e h))

  pub marks-from : {P : Type 0} (k u : ℕ) → HasMark (marks_by p at m k) u → (HasMark m u → P) → ((s : ℕ) → s < k → p s ≡ true → at s ≡ u → P) → P
  unfolding marks_by
  marks-from zero u h old new = old h
  marks-from (suc k) u h old new =
      mark-from (p k) (marks_by p at m k) (at k) u h
      (λ o. marks-from k u o old (λ s l e q. new s (omega arith) e q))
      (λ e q. new k (omega arith) e q)

-- ---- how many there are

pub count_marks : List ℕ → ℕ
count_marks [] = 0
count_marks (zero ∷ m) = count_marks m
count_marks (suc x ∷ m) = suc (count_marks m)

pub count-new : (m : List ℕ) (u : ℕ) → u < length m → ¬ HasMark m u → count_marks (set m u 1) ≡ suc (count_marks m)
unfolding count_marks
count-new [] u h n = absurd (omega arith)
count-new (zero ∷ m) zero h n = refl
count-new (suc x ∷ m) zero h n = absurd (n (omega arith))
count-new (zero ∷ m) (suc u) h n = count-new m u (omega arith) n
count-new (suc x ∷ m) (suc u) h n = ap suc (count-new m u (omega arith) n)

count_most : (m : List ℕ) → count_marks m ≤ length m
unfolding count_marks
count_most [] = omega arith
count_most (zero ∷ m) = omega (arith, count_most m)
count_most (suc x ∷ m) = omega (arith, count_most m)

pub count-full : (m : List ℕ) (u : ℕ) → length m ≤ count_marks m → u < length m → HasMark m u
unfolding count_marks
count-full [] u h l = absurd (omega arith)
count-full (zero ∷ m) u h l = absurd (omega (arith, count_most m))
count-full (suc x ∷ m) zero h l = omega arith
count-full (suc x ∷ m) (suc u) h l = count-full m u (omega arith) (omega arith)

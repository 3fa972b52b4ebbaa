-- Words that give numbers and distances, and lists of them.
use Rattle.std.specs.Prelude.{ℕ, zero, suc, ◌+◌, ◌*◌, ◌/◌, ◌%◌, ◌≤◌, ◌<◌, ◌≡◌, ◌&&◌, List, map, ℤ, pos, negsuc, eqb, ltb, length, get_or}
use Rattle.std.proofs.Common.{arith, div-add-mod', add-zero, sym, ap, ◌∙◌, le-leb, eq-eqb, eqb-true, lt-ltb, ltb-true}
use Rattle.std.proofs.Math.Path.{refl}
use Rattle.std.proofs.Math.Bool.{true, false}
use Rattle.std.proofs.Math.Arith.{digits_div, digits_mod}
use Rattle.std.proofs.Math.IntN.{nat_abs}
use Rattle.std.specs.Int.Signed.{non_neg}
use Rattle.std.proofs.lemmas.List.{length-map}
use Rattle.std.proofs.Math.ListN.{get_or-eq_default}
use Rattle.std.proofs.lemmas.Bool.{lt-leb, eqb-false}
use Rattle.graph.specs.Basic.{all}
use Rattle.graph.specs.Word.{to_nat, word_at}
use Rattle.graph.specs.laws.State.{and_left, and_right}
use Rattle.graph.specs.laws.Members.{clash, by-test, both, all_weaker}
use Rattle.graph.specs.laws.Number.{word-entry}
use Rattle.graph.specs.laws.Opened.{get_d_any}
use Rattle.distance.specs.Distance.{unreachable}
use Rattle.table_words.specs.Handed.{distance_limit, no_distance, distance_of, distance_in}

-- ---- numbers

pub word_none : (l : List ℤ) (i : ℕ) → length l ≤ i → 0 ≡ word_at l i
unfolding word_at to_nat
word_none l i h = rw (get_or-eq_default l (pos 0) {n = i} h)

-- ---- distances

module _ (z : ℤ) where
  pub distance-near : non_neg z ≡ true → nat_abs z ≤ distance_limit → nat_abs z ≡ distance_of z
  unfolding distance_of
  distance-near = go z
    where
      go : (z : ℤ) → non_neg z ≡ true → nat_abs z ≤ distance_limit → nat_abs z ≡ distance_of z
      go (pos n) e h = rw (le-leb n distance_limit h)
      go (negsuc n) e h = clash false e refl

  pub distance-far : non_neg z ≡ true → distance_limit < nat_abs z → no_distance ≡ distance_of z
  unfolding distance_of
  distance-far = go z
    where
      go : (z : ℤ) → non_neg z ≡ true → distance_limit < nat_abs z → no_distance ≡ distance_of z
      go (pos n) e h = rw (lt-leb n distance_limit h)
      go (negsuc n) e h = clash false e refl

  pub distance_none : non_neg z ≡ false → nat_abs z ≡ 1 → 2000000000000 ≡ distance_of z
  unfolding distance_of unreachable
  distance_none = go z
    where
      go : (z : ℤ) → non_neg z ≡ false → nat_abs z ≡ 1 → 2000000000000 ≡ distance_of z
      go (pos n) e h = clash true refl e
      go (negsuc zero) e h = refl
      go (negsuc (suc n)) e h = absurd (omega arith)

  pub distance-negative : non_neg z ≡ false → (nat_abs z ≡ 1 → ⊥) → no_distance ≡ distance_of z
  unfolding distance_of
  distance-negative = go z
    where
      go : (z : ℤ) → non_neg z ≡ false → (nat_abs z ≡ 1 → ⊥) → no_distance ≡ distance_of z
      go (pos n) e h = clash true refl e
      go (negsuc zero) e h = absurd (h refl)
      go (negsuc (suc n)) e h = refl

pub distance-at : (row : List ℤ) (u : ℕ) → u < length row → distance_of (get_or row u (pos 0)) ≡ distance_in row u
unfolding distance_in
distance-at row u h = ap distance_of (get_d_any row u (pos 0) (negsuc 0) h)

pub distance-outside : (row : List ℤ) (u : ℕ) → length row ≤ u → 2000000000000 ≡ distance_in row u
unfolding distance_in distance_of unreachable
distance-outside row u h = rw (get_or-eq_default row (negsuc 0) {n = u} h)

-- ---- as many rows of v words as there are defects

pub rows_fit : (k n v : ℕ) → 1 ≤ v → (eqb (k / v) n && eqb (k % v) 0) ≡ eqb k (n * v)
rows_fit k n v h = by-test (eqb k (n * v)) yes' no'
  where
    yes' : eqb k (n * v) ≡ true → (eqb (k / v) n && eqb (k % v) 0) ≡ eqb k (n * v)
    yes' e =
        let q : k ≡ n * v + 0 = eqb-true k (n * v) e ∙ sym (add-zero (n * v)) in
        let d : k / v ≡ n = ap (λ x. x / v) q ∙ digits_div n {m = v} {r = 0} h in
        let r : k % v ≡ 0 = ap (λ x. x % v) q ∙ digits_mod n {m = v} {r = 0} h in
        both _ _ (eq-eqb _ _ d) (eq-eqb _ _ r) ∙ sym e

    no' : eqb k (n * v) ≡ false → (eqb (k / v) n && eqb (k % v) 0) ≡ eqb k (n * v)
    no' e =
        by-test (eqb (k / v) n && eqb (k % v) 0)
        (λ t.
        let d : k / v ≡ n = eqb-true _ _ (and_left (eqb (k / v) n) (eqb (k % v) 0) t) in
        let r : k % v ≡ 0 = eqb-true _ _ (and_right (eqb (k / v) n) (eqb (k % v) 0) t) in
        let q : k ≡ n * v = sym (div-add-mod' k v) ∙ ap (λ x. x * v + k % v) d ∙ ap (λ x. n * v + x) r ∙ add-zero (n * v) in
        absurd (eqb-false k (n * v) e q))
        (λ t. t ∙ sym e)

-- ---- a list of numbers

pub numbers-long : (l : List ℤ) → length (map to_nat l) ≡ length l
numbers-long l = length-map l to_nat

pub numbers-at : (l : List ℤ) (i : ℕ) → get_or (map to_nat l) i 0 ≡ word_at l i
numbers-at l i = sym (word-entry l i)

-- below v, and so below a greater number
pub below_more : (v w : ℕ) → v ≤ w → (l : List ℕ) → all (λ x. ltb x v) l ≡ true → all (λ x. ltb x w) l ≡ true
below_more v w h l = all_weaker (λ x. ltb x v) (λ x. ltb x w) (λ x e. lt-ltb x w (omega (arith, ltb-true x v e))) l

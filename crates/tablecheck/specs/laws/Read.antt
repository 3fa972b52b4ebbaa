-- The rows of a table, read one after another.
use Prim.Native.Nat.{ℕ, zero, suc, ◌+◌, ◌-◌, ◌*◌, ◌≤◌, ◌<◌}
use Rattle.std.proofs.Common.{arith, add-one, mul-le-mul_right, ap, ◌∙◌, length-append, length-drop, take_all, drop_at, eq-eqb}
use Rattle.std.proofs.Math.Nat.{suc-mul}
use Rattle.std.specs.Prelude.{◌≡◌, Bool, true, List, [], ◌++◌, ℤ, eqb, take, drop, replicate}
use Rattle.std.proofs.Math.Path.{refl}
use Rattle.std.proofs.Math.ListN.{length}
use Rattle.std.proofs.lemmas.List.{take-append-le, drop-append-le}
use Rattle.graph.specs.laws.Members.{both}
use Rattle.table_words.specs.Handed.{row_of}
use Rattle.table_refuse.specs.Refuse.{sizes_right, lengths_right}
use Rattle.table_check.specs.Streamed.{Known, begun, advanced, after_rows, ended}
use Rattle.table_check.specs.Theorems.{row-by-row}
use Rattle.table_check.specs.Outcome.{Verdict}
use Rattle.tablecheck.specs.File.{RowsRead}

module _ (v e : ℕ) (edges virtuals defects duals growths : List ℤ) where
  -- what is known after i rows is what the definition says of some rows
  pub record SoFar (i : ℕ) (k : Known) : Type 0 where
    pub distances : List ℤ
    pub long : length distances ≡ i * v
    pub known : k ≡ after_rows v e edges virtuals defects duals growths distances i

  pub so-none : {k : Known} → k ≡ begun v e edges virtuals defects duals growths → SoFar 0 k
  unfolding after_rows
  so-none q = record { distances = []; long = omega arith; known = q }

  -- before the first row
  pub so-begun : {a b : Bool} {m : List ℕ} → a ≡ (begun v e edges virtuals defects duals growths).in_range
      → b ≡ (begun v e edges virtuals defects duals growths).passed → m ≡ replicate 1024 0 → SoFar 0 (record { in_range = a; passed = b; marks = m })
  unfolding begun
  so-begun p q r = so-none (rw (p, q, r))

  -- ---- a row more behind the others

  module _ (i : ℕ) (d row : List ℤ) (long : length d ≡ i * v) (one : length row ≡ v) where
    before : (n : ℕ) → n < i → row_of v (d ++ row) n ≡ row_of v d n
    before n h =
        let q : suc n * v ≤ i * v = mul-le-mul_right v h in
        let s : suc n * v ≡ n * v + v = suc-mul n v in
        let l : length (drop (n * v) d) ≡ length d - n * v = length-drop (n * v) d in
        ap (take v) (drop-append-le (n * v) d row (omega arith)) ∙ take-append-le v (drop (n * v) d) row (omega arith)

    last : row_of v (d ++ row) i ≡ row
    last = ap (take v) (drop_at d row (i * v) long) ∙ take_all v row (omega arith)

    same : (n : ℕ) → n ≤ i → after_rows v e edges virtuals defects duals growths (d ++ row) n ≡ after_rows v e edges virtuals defects duals growths d n
    unfolding after_rows
    same zero h = refl
    same (suc n) h = rw (same n (omega arith), before n (omega arith))

  pub so-more : {i : ℕ} {k k' : Known} (row : List ℤ) → SoFar i k → length row ≡ v → k' ≡ advanced v e edges virtuals defects duals growths k row i
      → SoFar (i + 1) k'
  unfolding after_rows
  so-more {i} {k} {k'} row s one q = record {
    distances = s.distances ++ row;
    long = rw (add-one, suc-mul i v) (length-append s.distances row ∙ sums);
    known = rw (add-one, same i s.distances row s.long one i (omega arith), last i s.distances row s.long one, ← s.known) q;
  }
    where
      sums : length s.distances + length row ≡ i * v + v
      sums = omega (arith, s.long, one)

  -- ---- behind the last

  pub so-all : {i : ℕ} {x : Verdict} {k : Known} → SoFar i k → i ≡ length defects → sizes_right v e edges ≡ true → length duals ≡ length defects → length growths ≡ 2 * e
      → x ≡ ended e edges growths k → RowsRead v e edges virtuals defects duals growths x
  so-all {i} {x} {k} s q sizes dual-count growth-count t =
      let long : length s.distances ≡ length defects * v = s.long ∙ ap (λ (j : ℕ). j * v) q in
      record {
        distances = s.distances;
        long = long;
        told = t ∙ ap (λ (z : Known). ended e edges growths z) s.known
            ∙ ap (λ (j : ℕ). ended e edges growths (after_rows v e edges virtuals defects duals growths s.distances j)) q
            ∙ row-by-row v e edges virtuals defects duals growths s.distances sizes (fitting long);
      }
    where
      fitting : length s.distances ≡ length defects * v → lengths_right v e defects duals growths s.distances ≡ true
      fitting l =
          unfold lengths_right in
          (both (eqb (length duals) (length defects)) _ (eq-eqb (length duals) (length defects) dual-count)
          (both (eqb (length growths) (2 * e)) _ (eq-eqb (length growths) (2 * e) growth-count) (eq-eqb (length s.distances) (length defects * v) l)))

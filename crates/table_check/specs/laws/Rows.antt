-- The loop over the rows.
use Rattle.std.specs.Prelude.{ℕ, suc, ◌+◌, ◌-◌, ◌*◌, ◌≤◌, ◌<◌, ◌≡◌, Bool, true, false, List, ℤ, length, take, drop, replicate}
use Rattle.std.proofs.Common.{arith, add-one, suc-mul, mul-le-mul_right, mul-le-mul}
use Rattle.std.proofs.Math.Path.{refl}
use Rattle.graph.specs.Basic.{all_below}
use Rattle.graph.specs.Word.{word_at}
use Rattle.table_words.specs.Handed.{distance_in, row_of}
use Rattle.table_rows.specs.Row.{cover_marks, row_right, free_at}
use Rattle.table_check.specs.Tests.{covered_by, rows_right}

-- the places of row i
module _ (n v i : ℕ) (h : i < n) (few : n ≤ 1024) (small : v ≤ 1024) where
  pub row_inside : i * v + v ≤ n * v
  row_inside = let q : suc i * v ≤ n * v = mul-le-mul_right v h in omega (arith, suc-mul i v)

  pub rows_few : n * v ≤ 1048576
  rows_few = let q : n * v ≤ 1024 * 1024 = mul-le-mul few small in omega arith

pub row_is : (v i : ℕ) (distances : List ℤ) → distance_in (take (i * v + v - i * v) (drop (i * v) distances)) ≡ distance_in (row_of v distances i)
row_is v i distances = let q : i * v + v - i * v ≡ v = omega arith in rw q

-- ---- marks of the rows before

module _ (v : ℕ) (D : ℕ → ℕ → ℕ) (duals : List ℤ) where
  pub covered_none : replicate 1024 0 ≡ covered_by v D duals 0
  unfolding covered_by
  covered_none = refl

  pub covered_more : (i : ℕ) {m m' : List ℕ} {f : ℕ → ℕ} {y : ℕ} → m ≡ covered_by v D duals i → f ≡ D i → y ≡ word_at duals i → m' ≡ cover_marks v f y m
      → m' ≡ covered_by v D duals (i + 1)
  unfolding covered_by
  covered_more i p q r h = rw (add-one, ← p, ← q, ← r) h

-- ---- what the loop answers

module _ (v e : ℕ) (edges virtuals defects duals growths : List ℤ) (D : ℕ → ℕ → ℕ) where
  abbrev pub row_test : ℕ → Bool
  row_test i = row_right v e edges virtuals defects duals growths (D i) i

  pub rows-fail : all_below row_test (length defects) ≡ false → false ≡ rows_right v e edges virtuals defects duals growths D
  unfolding rows_right
  rows-fail h = rw h

  pub rows_pass : {m : List ℕ} → all_below row_test (length defects) ≡ true → m ≡ covered_by v D duals (length defects)
      → all_below (free_at edges growths m) (2 * e) ≡ rows_right v e edges virtuals defects duals growths D
  unfolding rows_right
  rows_pass h q = rw (h, ← q)

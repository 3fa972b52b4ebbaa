-- The test of one side, by what was read.
use Rattle.std.specs.Prelude.{ℕ, ◌≤◌, ◌<◌, ◌≡◌, true, List, ℤ, eqb}
use borrow.Author.Tests.{le-leb, lt-leb}
use Rattle.graph.specs.Word.{word_at}
use Rattle.distance.specs.Table.{share}
use Rattle.table_words.specs.Sides.{near_in, across_in, weight_in}
use Rattle.table_rows.specs.Row.{side_at}

module _ (edges growths : List ℤ) (D : ℕ → ℕ) (y s u n : ℕ) (near-is : u ≡ near_in edges s) (n-is : n ≡ D u) where
  -- the defect does not cover the vertex
  pub side-not-covered : y ≤ n → true ≡ side_at edges growths D y s
  unfolding side_at
  side-not-covered h = rw (← near-is, ← n-is, le-leb y n h)

  -- it does
  pub side-covered : n < y → (z f w g x : ℕ) → z ≡ across_in edges s → f ≡ D z → w ≡ weight_in edges s → g ≡ word_at growths s → x ≡ share y n f w
      → eqb g x ≡ side_at edges growths D y s
  unfolding side_at
  side-covered h z f w g x p q r i j = rw (← near-is, ← n-is, lt-leb y n h, ← p, ← q, ← r, ← i, ← j)

-- What the code tests: marks on the vertices that reach a virtual one, and the table row by row.
use Rattle.std.specs.Prelude.{ℕ, zero, suc, ◌*◌, Bool, true, false, ◌&&◌, not, List, ℤ, ltb, length, replicate, if◌then◌else◌}
use Rattle.graph.specs.Basic.{all_below}
use Rattle.graph.specs.Word.{word_at}
use Rattle.table_words.specs.Sides.{near_in, across_in, weight_in, marked, mark_if, marks_by}
use Rattle.table_rows.specs.Row.{row_right, cover_marks, free_at}

-- ---- marks of vertices that reach a virtual one

-- a mark spreads along side s: its vertex has one, the vertex across has none
unfoldable pub spreads_at : List ℕ → List ℤ → ℕ → Bool
spreads_at m edges s = marked m (near_in edges s) && not (marked m (across_in edges s))

-- it does so
unfoldable pub spread_side : List ℤ → List ℕ → ℕ → List ℕ
spread_side edges m s = mark_if (spreads_at m edges s) m (across_in edges s)

-- along sides 0 to k - 1 in turn
unfoldable pub spread_sides : List ℤ → List ℕ → ℕ → List ℕ
spread_sides edges m zero = m
spread_sides edges m (suc k) = spread_side edges (spread_sides edges m k) k

-- some mark is new then
unfoldable pub spread_new : List ℤ → List ℕ → ℕ → Bool
spread_new edges m zero = false
spread_new edges m (suc k) = if spreads_at (spread_sides edges m k) edges k then true else spread_new edges m k

-- along all sides again and again until none is new, at most f times
unfoldable pub spread_until : ℕ → List ℤ → ℕ → List ℕ → List ℕ
spread_until e edges zero m = m
spread_until e edges (suc f) m = if spread_new edges m (2 * e) then spread_until e edges f (spread_sides edges m (2 * e)) else spread_sides edges m (2 * e)

-- the virtual vertices have marks, no other vertex has
unfoldable pub virtual_marks : List ℤ → List ℕ → List ℕ
virtual_marks virtuals m = marks_by (λ k. true) (word_at virtuals) m (length virtuals)

-- in the end every vertex has one
unfoldable pub all_marked : ℕ → ℕ → (edges virtuals : List ℤ) → List ℕ → Bool
all_marked v e edges virtuals m = all_below (marked (spread_until e edges v (virtual_marks virtuals m))) v

-- ---- all rows

-- the marks after rows 0 to i - 1, each of them the distances `D j` of defect j
unfoldable pub covered_by : ℕ → (ℕ → ℕ → ℕ) → List ℤ → ℕ → List ℕ
covered_by v D duals zero = replicate 1024 0
covered_by v D duals (suc i) = cover_marks v (D i) (word_at duals i) (covered_by v D duals i)

-- weights, reach, each row, and the sides that no defect covers
unfoldable pub rows_right : (v e : ℕ) (edges virtuals defects duals growths : List ℤ) → (ℕ → ℕ → ℕ) → Bool
rows_right v e edges virtuals defects duals growths D =
    all_below (λ i. row_right v e edges virtuals defects duals growths (D i) i) (length defects)
    && all_below (free_at edges growths (covered_by v D duals (length defects))) (2 * e)

unfoldable pub positive_in : List ℤ → ℕ → Bool
positive_in edges s = ltb 0 (weight_in edges s)

-- what the code tests where nothing refuses the call
unfoldable pub tested : (v e : ℕ) (edges virtuals defects duals growths : List ℤ) → (ℕ → ℕ → ℕ) → Bool
tested v e edges virtuals defects duals growths D =
    all_below (positive_in edges) (2 * e)
    && (all_marked v e edges virtuals (replicate v 0) && rows_right v e edges virtuals defects duals growths D)

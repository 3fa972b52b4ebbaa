-- What the code tests of the row of one defect, and of the sides that no defect covers.
use Rattle.std.specs.Prelude.{ℕ, ◌+◌, ◌*◌, Bool, ◌&&◌, ◌||◌, List, ℤ, leb, ltb, eqb, length}
use Rattle.graph.specs.Basic.{all_below}
use Rattle.graph.specs.Word.{word_at}
use Rattle.distance.specs.Table.{share}
use Rattle.table_words.specs.Sides.{near_in, across_in, weight_in, marked, marks_by}
use Rattle.table_distances.specs.Certificate.{certified}

-- ---- one row: the distances D of defect i

-- with defect j
unfoldable pub defect_pair_at : (defects duals : List ℤ) → (ℕ → ℕ) → ℕ → ℕ → Bool
defect_pair_at defects duals D i j = eqb i j || leb (word_at duals i + word_at duals j) (D (word_at defects j))

-- with the virtual vertex at place k
unfoldable pub virtual_pair_at : List ℤ → (ℕ → ℕ) → ℕ → ℕ → Bool
virtual_pair_at virtuals D y k = leb y (D (word_at virtuals k))

-- where it covers the vertex of side s, the growth there is its share
unfoldable pub side_at : (edges growths : List ℤ) → (ℕ → ℕ) → ℕ → ℕ → Bool
side_at edges growths D y s =
    leb y (D (near_in edges s)) || eqb (word_at growths s) (share y (D (near_in edges s)) (D (across_in edges s)) (weight_in edges s))

-- the row of defect i is right
unfoldable pub row_right : (v e : ℕ) (edges virtuals defects duals growths : List ℤ) → (ℕ → ℕ) → ℕ → Bool
row_right v e edges virtuals defects duals growths D i =
    certified v e edges (word_at defects i) D
    && (all_below (defect_pair_at defects duals D i) (length defects)
    && (all_below (virtual_pair_at virtuals D (word_at duals i)) (length virtuals)
    && all_below (side_at edges growths D (word_at duals i)) (2 * e)))

-- it covers vertex u
abbrev pub covers_at : (ℕ → ℕ) → ℕ → ℕ → Bool
covers_at D y u = ltb (D u) y

-- the vertices that it covers get marks
unfoldable pub cover_marks : ℕ → (ℕ → ℕ) → ℕ → List ℕ → List ℕ
cover_marks v D y m = marks_by (covers_at D y) (λ u. u) m v

-- ---- sides that no defect covers

-- no growth where the vertex of side s has no mark
unfoldable pub free_at : (edges growths : List ℤ) → List ℕ → ℕ → Bool
free_at edges growths m s = marked m (near_in edges s) || eqb (word_at growths s) 0

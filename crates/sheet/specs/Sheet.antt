-- A calibration sheet: whole ten-thousandths, one word for each edge.
use Rattle.std.specs.Prelude.{ℕ, ◌+◌, ◌*◌, max, Bool, ◌&&◌, List, map, ℤ, pos, leb, ltb, eqb, length, get_or, set}
use Rattle.graph.specs.Basic.{fold, all, only, below}
use Rattle.graph.specs.Word.{to_nat}
use Rattle.graph.specs.Open.{Edge}
use Rattle.sheet.specs.Weight.{scaled}

-- the values, as the words give them; a negative word is out of range
unfoldable pub values_from : List ℤ → List ℕ
values_from words = map to_nat words

-- the largest value, 0 of none
unfoldable pub largest : List ℕ → ℕ
largest values = fold max 0 values

-- 0 to 99,999.9999
abbrev pub in_range : ℕ → Bool
in_range t = leb t 999_999_999

-- every value is in range, and one is positive
unfoldable pub sheet_ok : List ℕ → Bool
sheet_ok values = all in_range values && ltb 0 (largest values)

-- the value t is positive and becomes 0
unfoldable pub vanishes : ℕ → ℕ → Bool
vanishes m t = ltb 0 t && eqb (scaled m t) 0

-- how many values of the sheet do
unfoldable pub vanished : List ℕ → ℕ
vanished values = length (only (vanishes (largest values)) values)

-- the weight of edge i
abbrev pub sheet_weight : List ℕ → ℕ → ℕ
sheet_weight values i = scaled (largest values) (get_or values i 0)

-- it becomes the third word of the edge
unfoldable pub weigh_at : List ℕ → List ℤ → ℕ → List ℤ
weigh_at values edges i = set edges (3 * i + 2) (pos (sheet_weight values i))

-- that of every edge
unfoldable pub weighed : List ℕ → List ℤ → List ℤ
weighed values edges = fold (weigh_at values) edges (below (length values))

-- the edge with another weight
abbrev pub with_weight : Edge → ℕ → Edge
with_weight x w = record { left = x.left; right = x.right; weight = w }

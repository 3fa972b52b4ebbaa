-- The walk over the sides: an array has, of each vertex, the place in the row `at` where its next side must stand.
use Rattle.std.specs.Prelude.{ℕ, ◌+◌, ◌<◌, ◌≡◌, Bool, true, ◌&&◌, List, [], ◌∷◌, ℤ, ltb, leb, eqb, length, get_or}
use Rattle.graph.specs.State.{vertex_count, side_count, end_at}
use Rattle.graph.specs.Layout.{rows_of, row, state_of}
use Rattle.graph.specs.Rows.{at_row}
use Rattle.graph.specs.inner.SidesAt.{first_word, last_word}
use Rattle.graph.specs.inner.Counts.{met}

-- the array has where the sides at the first k vertices begin
abbrev pub Firsts : List ℤ → ℕ → List ℕ → Type 0
Firsts b k next = (v : ℕ) → v < k → get_or next v 0 ≡ first_word b v

-- from a on no fall, and none above m
unfoldable pub rises_from : ℕ → List ℕ → ℕ → Bool
rises_from a [] m = true
rises_from a (f ∷ fs) m = leb a f && leb f m && rises_from f fs m

-- side s stands at place p of the row `at`
unfoldable pub placed_at : List ℤ → ℕ → ℕ → Bool
placed_at b p s = ltb p (side_count (state_of b)) && eqb (get_or (row (rows_of b) at_row) p 0) s

-- the place of side s: behind the sides below s that stand at its vertex
abbrev pub place_of : List ℤ → ℕ → ℕ
place_of b s = first_word b (end_at (state_of b) s) + length (met (state_of b).graph.end s (end_at (state_of b) s))

-- the first s sides stand at their places, and the array has of each vertex where its next one must
pub record Walking (b : List ℤ) (s : ℕ) (next : List ℕ) : Type 0 where
  pub places : (v : ℕ) → v < vertex_count (state_of b) → get_or next v 0 ≡ first_word b v + length (met (state_of b).graph.end s v)
  pub stand : (t : ℕ) → t < s → get_or (row (rows_of b) at_row) (place_of b t) 0 ≡ t

-- the sides of vertex v end at its next place
unfoldable pub reached_at : List ℤ → List ℕ → ℕ → Bool
reached_at b next v = eqb (last_word b v) (get_or next v 0)

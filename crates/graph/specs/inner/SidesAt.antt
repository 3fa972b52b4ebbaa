-- The sides at a vertex, as the words of a block have them: where they begin and where they end.
use Rattle.std.specs.Prelude.{ℕ, ◌+◌, ◌*◌, ◌≡◌, true, List, ℤ, ltb, get_or, if◌then◌else◌}
use Rattle.graph.specs.State.{vertex_count, side_count}
use Rattle.graph.specs.Layout.{e_of, rows_of, row, rising_to, state_of}
use Rattle.graph.specs.Rows.{first_row}

-- the firsts do not fall
abbrev pub Rising : List ℤ → Type 0
Rising b = rising_to (row (rows_of b) first_row) (2 * e_of b) ≡ true

abbrev pub first_word : List ℤ → ℕ → ℕ
first_word b v = get_or (row (rows_of b) first_row) v 0

-- where the sides at v end: where those at the next vertex begin, or at the end of all
unfoldable pub last_word : List ℤ → ℕ → ℕ
last_word b v = if ltb (v + 1) (vertex_count (state_of b)) then first_word b (v + 1) else side_count (state_of b)

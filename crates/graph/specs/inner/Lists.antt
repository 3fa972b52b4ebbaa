-- The words of the lists of nodes: where those of node n start, how long they are, and the store that has them.
use Rattle.std.specs.Prelude.{ℕ, List, ℤ, get_or}
use Rattle.graph.specs.Layout.{rows_of, row}
use Rattle.graph.specs.Rows.{start_row, boundary_length_row, overgrown_length_row, store_row}

abbrev pub start_word : List ℤ → ℕ → ℕ
start_word b n = get_or (row (rows_of b) start_row) n 0

abbrev pub blen_word : List ℤ → ℕ → ℕ
blen_word b n = get_or (row (rows_of b) boundary_length_row) n 0

abbrev pub olen_word : List ℤ → ℕ → ℕ
olen_word b n = get_or (row (rows_of b) overgrown_length_row) n 0

abbrev pub store_of : List ℤ → List ℕ
store_of b = row (rows_of b) store_row

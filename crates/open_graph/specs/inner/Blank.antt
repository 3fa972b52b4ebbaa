-- A block while it is opened: the rows that it has.
use Rattle.std.specs.Prelude.{ℕ, ◌*◌, ◌≡◌, List, ◌∷◌, map, ℤ, length, drop}
use Rattle.graph.specs.State.{vertex_count, edge_count, side_count}
use Rattle.graph.specs.Layout.{sizes, block_length, rows_of, state_of}
use Rattle.graph.specs.Form.{Laid}
use Rattle.graph.specs.Opening.{zeros}

-- the block b of the sizes V, E, N, L has the rows r
pub record HasRows (v e n l : ℕ) (b : List ℤ) (r : List (List ℕ)) : Type 0 where
  pub laid : Laid b
  pub rows : rows_of b ≡ r
  pub vertices : vertex_count (state_of b) ≡ v
  pub edges : edge_count (state_of b) ≡ e
  pub sides : side_count (state_of b) ≡ 2 * e
  pub len : length b ≡ block_length v e n l

-- the rows behind the header
abbrev pub rest_sizes : ℕ → ℕ → ℕ → ℕ → List ℕ
rest_sizes v e n l = drop 1 (sizes v e n l)

unfoldable pub blank_rows : ℕ → ℕ → ℕ → ℕ → List (List ℕ)
blank_rows v e n l = (v ∷ e ∷ n ∷ l ∷ zeros 12) ∷ map zeros (rest_sizes v e n l)

-- A store cut into lists, one behind another: their lengths, where each starts, what stands behind it.
use Rattle.std.specs.Prelude.{ℕ, zero, suc, ◌+◌, ◌<◌, ◌≡◌, List, [], ◌∷◌, get_or, take, ℤ}
use Rattle.graph.specs.State.{node_count}
use Rattle.graph.specs.Layout.{rows_of, row, state_of}
use Rattle.graph.specs.Rows.{header_row, boundary_length_row, overgrown_length_row}

-- how long all lists are, of b and o entries each
unfoldable pub sum_of_lists : List ℕ → List ℕ → ℕ
sum_of_lists [] os = 0
sum_of_lists (b ∷ bs) [] = 0
sum_of_lists (b ∷ bs) (o ∷ os) = b + o + sum_of_lists bs os

-- where list n starts, and how much stands behind it
unfoldable pub start_at : List ℕ → List ℕ → ℕ → ℕ
start_at [] os n = 0
start_at (b ∷ bs) [] n = 0
start_at (b ∷ bs) (o ∷ os) zero = 0
start_at (b ∷ bs) (o ∷ os) (suc n) = b + o + start_at bs os n

unfoldable pub rest_at : List ℕ → List ℕ → ℕ → ℕ
rest_at [] os n = 0
rest_at (b ∷ bs) [] n = 0
rest_at (b ∷ bs) (o ∷ os) zero = sum_of_lists bs os
rest_at (b ∷ bs) (o ∷ os) (suc n) = rest_at bs os n

-- two stores agree up to place n
abbrev pub Agree : ℕ → List ℕ → List ℕ → Type 0
Agree n x y = (p : ℕ) → p < n → get_or x p 0 ≡ get_or y p 0

-- the lengths of the nodes' lists
abbrev pub blens : List ℤ → List ℕ
blens b = take (get_or (row (rows_of b) header_row) 4 0) (row (rows_of b) boundary_length_row)

abbrev pub olens : List ℤ → List ℕ
olens b = take (get_or (row (rows_of b) header_row) 4 0) (row (rows_of b) overgrown_length_row)

-- node n: where its lists start, how many words they have, and how many stand behind them
pub record Split (b : List ℤ) (n a y rest : ℕ) : Type 0 where
  pub below : n < node_count (state_of b)
  pub is-start : a ≡ start_at (blens b) (olens b) n
  pub is-old : y ≡ get_or (blens b) n 0 + get_or (olens b) n 0
  pub is-rest : rest ≡ rest_at (blens b) (olens b) n
  pub sum : a + y + rest ≡ sum_of_lists (blens b) (olens b)

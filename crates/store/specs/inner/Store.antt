-- What the steps of a replacement leave in the block: words moved, words put in, starts and lengths written.
use Rattle.std.specs.Prelude.{ℕ, ◌+◌, ◌-◌, ◌≤◌, ◌<◌, ◌%◌, ◌≡◌, List, ◌++◌, map, ℤ, length, set, get_or, take, drop}
use Rattle.graph.specs.State.{vertex_count, edge_count, side_count, node_count}
use Rattle.graph.specs.Word.{numbers_at}
use Rattle.graph.specs.Rows.{flags_row, vertex_holder_row, vertex_grandson_row, growth_row, holder_row, grandson_row, start_row, boundary_length_row, overgrown_length_row, store_row}
use Rattle.graph.specs.Layout.{rows_of, row, state_of}
use Rattle.graph.specs.Form.{Laid}
use Rattle.graph.specs.inner.Form.{Rowed}
use Rattle.graph.specs.inner.Lists.{store_of, olen_word, blen_word, start_word}
use Rattle.graph.specs.inner.Cut.{Agree, Split}
use Rattle.graph.specs.Opening.{zeros}

-- sizes and counts as they were
pub record SameCounts (b₀ b : List ℤ) : Type 0 where
  pub laid : Laid b
  pub vertices : vertex_count (state_of b) ≡ vertex_count (state_of b₀)
  pub edges : edge_count (state_of b) ≡ edge_count (state_of b₀)
  pub sides : side_count (state_of b) ≡ side_count (state_of b₀)
  pub nodes : node_count (state_of b) ≡ node_count (state_of b₀)
  pub len : length b ≡ length b₀

-- the m words at a + x stand at a + k, the rest at a + y stands at a + z
pub record Moved (b₀ b : List ℤ) (a x y rest k m z : ℕ) : Type 0 where
  pub still : Rowed store_row b₀ b (store_of b)
  pub before : Agree a (store_of b) (store_of b₀)
  pub kept : (i : ℕ) → i < m → get_or (store_of b) (a + k + i) 0 ≡ get_or (store_of b₀) (a + x + i) 0
  pub after : (i : ℕ) → i < rest → get_or (store_of b) (a + z + i) 0 ≡ get_or (store_of b₀) (a + y + i) 0

-- the new lists: k numbers of t from 0 on, the kept stack, o numbers of t from q on
unfoldable pub new_lists : List ℤ → List ℤ → ℕ → ℕ → ℕ → ℕ → ℕ → ℕ → List ℕ
new_lists b t a x k m q o = numbers_at t 0 k ++ (take m (drop (a + x) (store_of b)) ++ numbers_at t q o)

pub record Stored (b₀ b t : List ℤ) (a x y rest k m q o : ℕ) : Type 0 where
  pub still : Rowed store_row b₀ b (store_of b)
  pub before : Agree a (store_of b) (store_of b₀)
  pub inner : Agree (k + (m + o)) (drop a (store_of b)) (new_lists b₀ t a x k m q o)
  pub after : Agree rest (drop (a + (k + (m + o))) (store_of b)) (drop (a + y) (store_of b₀))

-- the starts of the nodes behind n, up to c, shifted for lists of k + o words in place of y, and the lengths of node n written
pub record Resized (b₀ b : List ℤ) (n c k o y : ℕ) : Type 0 where
  pub kept : SameCounts b₀ b
  pub rows : rows_of b
      ≡ set
      (set (set (rows_of b₀) start_row (row (rows_of b) start_row)) boundary_length_row
      (set (row (rows_of b₀) boundary_length_row) n k))
      overgrown_length_row
      (set (row (rows_of b₀) overgrown_length_row) n o)
  pub behind : (p : ℕ) → n < p → p < c → start_word b p ≡ start_word b₀ p + (k + o) - y
  pub before : (p : ℕ) → p ≤ n → start_word b p ≡ start_word b₀ p
  pub size : length (row (rows_of b) start_row) ≡ length (row (rows_of b₀) start_row)

-- the lists of node n start at a and have y words, x of them boundary; `rest` words stand behind them; k + (m + o) words fit in their place
pub record Replaceable (b : List ℤ) (n a x y rest k m o : ℕ) : Type 0 where
  pub split : Split b n a y rest
  pub start : a ≡ start_word b n
  pub boundary : x ≡ blen_word b n
  pub both : y ≡ blen_word b n + olen_word b n
  pub keeps : x + m ≤ y
  pub within : a + y + rest ≤ (state_of b).store_limit
  pub room : a + (k + (m + o)) + rest ≤ (state_of b).store_limit
  pub small : (state_of b).store_limit ≤ 65536

-- after b₀, the block b has the rows r, and all counts as they were
pub record Rewritten (b₀ b : List ℤ) (r : List (List ℕ)) : Type 0 where
  pub kept : SameCounts b₀ b
  pub rows : rows_of b ≡ r

-- the rows over vertices and the rows over sides, cleared
unfoldable pub cleared_vertices : List (List ℕ) → List (List ℕ)
cleared_vertices r =
    set
    (set (set r flags_row (map (λ x. x % 2) (row r flags_row))) vertex_holder_row (zeros (length (row r vertex_holder_row))))
    vertex_grandson_row
    (zeros (length (row r vertex_grandson_row)))

unfoldable pub cleared_sides : List (List ℕ) → List (List ℕ)
cleared_sides r =
    set (set (set r growth_row (zeros (length (row r growth_row)))) holder_row (zeros (length (row r holder_row)))) grandson_row
    (zeros (length (row r grandson_row)))

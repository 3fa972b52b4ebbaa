-- What the functions over a block ask of it and promise of it. Who reads and writes through this crate sees the counts of the state;
-- what they rest on in the words is shut behind `Laid`, `Listed` and `Wired`.
use Rattle.std.specs.Prelude.{ℕ, ◌+◌, ◌*◌, ◌≤◌, ◌≡◌, true, List, [], ◌∷◌, map, ℤ, ltb, leb, length, get_or, take}
use Rattle.graph.specs.Basic.{all, below}
use Rattle.graph.specs.State.{vertex_count, edge_count, side_count, node_count}
use Rattle.graph.specs.Open.{weight_limit, sides_of}
use Rattle.graph.specs.Layout.{v_of, e_of, n_of, l_of, count_of, active_count_of, block_length, rows_of, row, stretches, rising_to, state_of}
use Rattle.graph.specs.Rows.{header_row, first_row, end_row, at_row, weight_row, start_row, boundary_length_row, overgrown_length_row, original_row}

-- ---- what the words have

-- the sizes are within their limits and the block has their length
pub record Sized (b : List ℤ) : Type 0 where
  pub v-min : 1 ≤ v_of b
  pub v-max : v_of b ≤ 1024
  pub e-min : 1 ≤ e_of b
  pub e-max : e_of b ≤ 4096
  pub n-min : 1 ≤ n_of b
  pub n-max : n_of b ≤ 1024
  pub l-max : l_of b ≤ 65536
  pub len : length b ≡ block_length (v_of b) (e_of b) (n_of b) (l_of b)

-- the counts of the state, by the sizes
pub record Counted (b : List ℤ) : Type 0 where
  pub vertices : vertex_count (state_of b) ≡ v_of b
  pub edges : edge_count (state_of b) ≡ e_of b
  pub sides : side_count (state_of b) ≡ 2 * e_of b
  pub nodes : node_count (state_of b) ≡ count_of b
  pub node-limit : (state_of b).node_limit ≡ n_of b
  pub store-limit : (state_of b).store_limit ≡ l_of b
  pub count-max : count_of b ≤ n_of b
  pub actives : length (state_of b).active ≡ active_count_of b
  pub active-max : active_count_of b ≤ n_of b

-- sizes and counts
pub record LaidOut (b : List ℤ) : Type 0 where
  pub sized : Sized b
  pub counted : Counted b

-- the same, shut: what every read of a word asks
unfoldable pub Laid : List ℤ → Type 0
Laid b = LaidOut b

-- where the lists of each node begin, and how long all of them are
unfoldable pub starts_from : ℕ → List ℕ → List ℕ → List ℕ
starts_from a [] os = []
starts_from a (b ∷ bs) [] = []
starts_from a (b ∷ bs) (o ∷ os) = a ∷ starts_from (a + b + o) bs os

unfoldable pub total_from : ℕ → List ℕ → List ℕ → ℕ
total_from a [] os = a
total_from a (b ∷ bs) [] = a
total_from a (b ∷ bs) (o ∷ os) = total_from (a + b + o) bs os

-- no more than N nodes; their lists stand in the store one after another
pub record Packed (header start blen olen : List ℕ) : Type 0 where
  pub count-max : get_or header 4 0 ≤ get_or header 2 0
  pub starts : take (get_or header 4 0) start ≡ starts_from 0 (take (get_or header 4 0) blen) (take (get_or header 4 0) olen)
  pub total : total_from 0 (take (get_or header 4 0) blen) (take (get_or header 4 0) olen) ≤ get_or header 3 0

abbrev pub PackedRows : List (List ℕ) → Type 0
PackedRows r = Packed (row r header_row) (row r start_row) (row r boundary_length_row) (row r overgrown_length_row)

-- the graph: its numbers are in range, and the sides at each vertex are those whose end it is
pub record GraphOk (header first end at weight original : List ℕ) : Type 0 where
  pub ends : all (λ x. ltb x (get_or header 0 0)) end ≡ true
  pub sides : stretches first at ≡ map (sides_of end) (below (get_or header 0 0))
  pub firsts : rising_to first (2 * get_or header 1 0) ≡ true
  pub weights : all (λ x. leb x weight_limit) weight ≡ true
  pub originals : all (λ x. leb x weight_limit) original ≡ true

abbrev pub GraphRows : List (List ℕ) → Type 0
GraphRows r = GraphOk (row r header_row) (row r first_row) (row r end_row) (row r at_row) (row r weight_row) (row r original_row)

-- the same of a block, shut: what every read of a node's lists asks, and every read of the sides at a vertex
unfoldable pub Listed : List ℤ → Type 0
Listed b = PackedRows (rows_of b)

unfoldable pub Wired : List ℤ → Type 0
Wired b = GraphRows (rows_of b)

-- ---- what contracts say

-- a block in form, which no core call breaks: what every reader and writer of the state asks
pub record Formed (b : List ℤ) : Type 0 where
  pub vertices-max : vertex_count (state_of b) ≤ 1024
  pub sides-max : side_count (state_of b) ≤ 8192
  pub pairs : side_count (state_of b) ≡ 2 * edge_count (state_of b)
  pub nodes-max : node_count (state_of b) ≤ 1024
  pub laid : Laid b
  pub listed : Listed b
  pub wired : Wired b

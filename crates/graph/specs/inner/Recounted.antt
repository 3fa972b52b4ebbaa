-- A block with another count of nodes, or another length of the active list.
use Rattle.std.specs.Prelude.{ℕ, ◌≡◌, List, ℤ, length, set}
use Rattle.graph.specs.State.{vertex_count, edge_count, side_count, node_count}
use Rattle.graph.specs.Layout.{rows_of, row, state_of}
use Rattle.graph.specs.Form.{Laid}
use Rattle.graph.specs.Rows.{header_row}

-- after b₀, the block b has x nodes, and all else as it was
pub record Recounted (b₀ b : List ℤ) (x : ℕ) : Type 0 where
  pub laid : Laid b
  pub rows : rows_of b ≡ set (rows_of b₀) header_row (set (row (rows_of b₀) header_row) 4 x)
  pub vertices : vertex_count (state_of b) ≡ vertex_count (state_of b₀)
  pub edges : edge_count (state_of b) ≡ edge_count (state_of b₀)
  pub sides : side_count (state_of b) ≡ side_count (state_of b₀)
  pub nodes : node_count (state_of b) ≡ x
  pub node-limit : (state_of b).node_limit ≡ (state_of b₀).node_limit
  pub store-limit : (state_of b).store_limit ≡ (state_of b₀).store_limit
  pub len : length b ≡ length b₀

-- after b₀, the active list of the block b ends behind x nodes, and all else is as it was
pub record ActiveRecounted (b₀ b : List ℤ) (x : ℕ) : Type 0 where
  pub laid : Laid b
  pub rows : rows_of b ≡ set (rows_of b₀) header_row (set (row (rows_of b₀) header_row) 5 x)
  pub vertices : vertex_count (state_of b) ≡ vertex_count (state_of b₀)
  pub edges : edge_count (state_of b) ≡ edge_count (state_of b₀)
  pub sides : side_count (state_of b) ≡ side_count (state_of b₀)
  pub nodes : node_count (state_of b) ≡ node_count (state_of b₀)
  pub node-limit : (state_of b).node_limit ≡ (state_of b₀).node_limit
  pub store-limit : (state_of b).store_limit ≡ (state_of b₀).store_limit
  pub len : length b ≡ length b₀

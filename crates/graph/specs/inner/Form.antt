-- What a write leaves of a block in form, and sides that a list may have.
use Rattle.std.specs.Prelude.{ℕ, ◌≡◌, Bool, List, ℤ, ltb, length, set}
use Rattle.graph.specs.Basic.{all}
use Rattle.graph.specs.State.{State, vertex_count, edge_count, side_count, node_count, boundary_of}
use Rattle.graph.specs.Layout.{rows_of, state_of}
use Rattle.graph.specs.Form.{Formed, Laid}

-- the sides in the boundary of node n are sides
unfoldable pub sides_ok : State → ℕ → Bool
sides_ok c n = all (λ s. ltb s (side_count c)) (boundary_of c n)

-- after b₀, the block b is in form, of the same counts, and holds the state c
pub record Becomes (b₀ b : List ℤ) (c : State) : Type 0 where
  pub formed : Formed b
  pub state : state_of b ≡ c
  pub vertices : vertex_count (state_of b) ≡ vertex_count (state_of b₀)
  pub edges : edge_count (state_of b) ≡ edge_count (state_of b₀)
  pub sides : side_count (state_of b) ≡ side_count (state_of b₀)
  pub nodes : node_count (state_of b) ≡ node_count (state_of b₀)
  pub len : length b ≡ length b₀

-- after b₀, the block b has the list w as row k, and all else as it was
pub record Rowed (k : ℕ) (b₀ b : List ℤ) (w : List ℕ) : Type 0 where
  pub laid : Laid b
  pub rows : rows_of b ≡ set (rows_of b₀) k w
  pub vertices : vertex_count (state_of b) ≡ vertex_count (state_of b₀)
  pub edges : edge_count (state_of b) ≡ edge_count (state_of b₀)
  pub sides : side_count (state_of b) ≡ side_count (state_of b₀)
  pub nodes : node_count (state_of b) ≡ node_count (state_of b₀)
  pub node-limit : (state_of b).node_limit ≡ (state_of b₀).node_limit
  pub store-limit : (state_of b).store_limit ≡ (state_of b₀).store_limit
  pub len : length b ≡ length b₀

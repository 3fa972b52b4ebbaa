-- One more node: what a block then holds.
use Rattle.std.specs.Prelude.{ℕ, ◌+◌, ◌≡◌, List, ℤ, length, set}
use Rattle.graph.specs.State.{State, vertex_count, edge_count, side_count, node_count}
use Rattle.graph.specs.Layout.{row, state_of}
use Rattle.graph.specs.Form.{Formed}
use Rattle.graph.specs.declared.dual_node.DualNode.{DualNode}

-- after b₀, the block b is in form, has one more node and otherwise the same counts, and holds the state c
pub record Inserted (b₀ b : List ℤ) (c : State) : Type 0 where
  pub formed : Formed b
  pub state : state_of b ≡ c
  pub vertices : vertex_count (state_of b) ≡ vertex_count (state_of b₀)
  pub edges : edge_count (state_of b) ≡ edge_count (state_of b₀)
  pub sides : side_count (state_of b) ≡ side_count (state_of b₀)
  pub nodes : node_count (state_of b) ≡ node_count (state_of b₀) + 1
  pub len : length b ≡ length b₀

-- place n of row k with x in it
abbrev pub put : ℕ → ℕ → ℕ → List (List ℕ) → List (List ℕ)
put k n x r = set r k (set (row r k) n x)

-- the numbers of node n are those of d: what it stands for, its grow state, its parent and its dual variable
abbrev pub head_put : ℕ → DualNode → List (List ℕ) → List (List ℕ)
head_put n d r = put 14 n d.dual (put 13 n d.parent (put 12 n d.state (put 11 n d.class r)))

-- the lists of node n start at a, and are empty
abbrev pub tail_put : ℕ → ℕ → List (List ℕ) → List (List ℕ)
tail_put n a r = put 17 n 0 (put 16 n 0 (put 15 n a r))

-- What is told of a node: what it stands for, its grow state, the blossom that it lies in, and its dual variable.
use Rattle.std.specs.Prelude.{ℕ, ◌≡◌, List, ℤ, eqb, if◌then◌else◌}
use Rattle.graph.specs.State.{State, NodeClass, defect_vertex, blossom, removed, class_of, grow_state_of, parent_of, dual_of}
use Rattle.graph.specs.Layout.{state_of, memory_refusal}
use Rattle.calls.specs.Refuse.{bad_node}
use Rattle.dual_module_node.specs.Outcome.{NodeRead}
use Rattle.dual_module_node.specs.Outcome.{Defect, Blossom, Refused}

-- a node of this class, of grow state x, parent p (0 for none, or the number of a blossom + 1) and dual variable y
unfoldable pub node_told : NodeClass → ℕ → ℕ → ℕ → NodeRead
node_told (defect_vertex v) x p y = Defect v x p y
node_told (blossom m) x p y = Blossom m x p y
node_told removed x p y = Refused 3

-- node n of a state; a number that is no node, or that of a removed one, is refused 3
unfoldable pub read_node : State → ℕ → NodeRead
read_node c n = if bad_node c n then Refused 3 else node_told (class_of c n) (grow_state_of c n) (parent_of c n) (dual_of c n)

-- the same where k is 0 or refuses what is lent
unfoldable pub read_unless : ℕ → State → ℕ → NodeRead
read_unless k c n = if eqb k 0 then read_node c n else Refused k

-- what reading node n of the block b promises, with the scratch t and the answer a; both are only read
abbrev pub ReadNodeCalled : List ℤ → List ℤ → ℕ → NodeRead → Type 0
ReadNodeCalled b t n a = a ≡ read_unless (memory_refusal b t) (state_of b) n

-- A node as a value, and how growth moves its numbers.
use Rattle.std.specs.Prelude.{ℕ, ◌+◌, ◌-◌, ◌≤◌, ◌<◌, ◌≡◌, ◌≢◌, List, [], ◌∷◌, eqb, length, if◌then◌else◌}
use Rattle.graph.specs.State.{State, NodeClass, defect_vertex, blossom, removed, removed_place, Overgrown, up, vertex_count, class_of, grow_state_of, parent_of, dual_of, overgrown_of}
use Rattle.graph.specs.declared.dual_node.DualNode.{DualNode}

-- x moved by l, up or down
unfoldable pub moved : ℕ → ℕ → ℕ → ℕ
moved d l x = if eqb d up then x + l else x - l

-- the top amount x of a stack of n vertices moved, if there is one
unfoldable pub moved_top : ℕ → ℕ → ℕ → ℕ → ℕ
moved_top d l n x = if eqb n 0 then x else moved d l x

-- the node that stands for nothing
unfoldable pub empty_node : DualNode
empty_node = record { class = 0; state = 0; parent = 0; dual = 0; overgrown = 0; top = 0 }

-- a new node: the empty one, standing for `class` in grow state x
abbrev pub new_node : ℕ → ℕ → DualNode
new_node class x = record { class = class; state = x; parent = 0; dual = 0; overgrown = 0; top = 0 }

-- the node with its dual variable and its top amount moved
unfoldable pub grown_node : ℕ → ℕ → DualNode → DualNode
grown_node d l x =
    record {
      class = x.class;
      state = x.state;
      parent = x.parent;
      dual = moved d l x.dual;
      overgrown = x.overgrown;
      top = moved_top d l x.overgrown x.top;
    }

-- what a node stands for, as a class word
unfoldable pub class_number : ℕ → NodeClass → ℕ
class_number v (defect_vertex x) = x
class_number v (blossom m) = v + m
class_number v removed = v + removed_place

unfoldable pub top_amount : List Overgrown → ℕ
top_amount [] = 0
top_amount (o ∷ os) = o.amount

-- node n of a state
unfoldable pub node_at : State → ℕ → DualNode
node_at c n = record {
  class = class_number (vertex_count c) (class_of c n);
  state = grow_state_of c n;
  parent = parent_of c n;
  dual = dual_of c n;
  overgrown = length (overgrown_of c n);
  top = top_amount (overgrown_of c n);
}

-- a stack with the amount of its top set to x
unfoldable pub with_top : ℕ → List Overgrown → List Overgrown
with_top x [] = []
with_top x (o ∷ os) = record { vertex = o.vertex; amount = x } ∷ os

-- ---- what can be moved without passing the machine's numbers

pub record Movable (d l x : ℕ) : Type 0 where
  pub rises : d ≡ up → x + l < 18446744073709551616
  pub falls : d ≢ up → l ≤ x

abbrev pub TopMovable : ℕ → ℕ → ℕ → ℕ → Type 0
TopMovable d l n x = n ≢ 0 → Movable d l x

pub record NodeMovable (d l : ℕ) (x : DualNode) : Type 0 where
  pub dual : Movable d l x.dual
  pub top : TopMovable d l x.overgrown x.top

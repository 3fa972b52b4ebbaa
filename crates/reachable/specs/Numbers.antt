-- Soundness but for what lists hold of each other: what holds of the numbers of a state.
use Rattle.std.specs.Prelude.{ℕ, ◌≤◌, ◌<◌, ◌≡◌, true, ltb}
use Rattle.graph.specs.Basic.{all, distinct}
use Rattle.graph.specs.State.{State, vertex_count, edge_count, side_count, node_count, class_of, grow_state_of, parent_of, dual_of, boundary_of, overgrown_of}
use Rattle.graph.specs.Open.{dual_limit}
use Rattle.graph.specs.Sound.{class_sound, parent_sound, over_sound, active_sound}
use Rattle.graph.specs.Shape.{SoundSide, SoundVertex, SoundEdge, Shape}
use Rattle.reachable.specs.Cluster.{stacked}

-- of node n: everything but what its own lists hold
pub record NodeNumbers (c : State) (n : ℕ) : Type 0 where
  pub class : class_sound c n (class_of c n) ≡ true
  pub grow_state : grow_state_of c n ≤ 2
  pub parent : parent_sound c n ≡ true
  pub dual : dual_of c n ≤ dual_limit
  pub boundary : all (λ s. ltb s (side_count c)) (boundary_of c n) ≡ true
  pub overgrown : all (over_sound c) (overgrown_of c n) ≡ true

-- of an outermost node: nothing twice
pub record ListsDistinct (c : State) (n : ℕ) : Type 0 where
  pub sides : distinct (boundary_of c n) ≡ true
  pub vertices : distinct (stacked (overgrown_of c n)) ≡ true

pub record SoundNumbers (c : State) : Type 0 where
  pub shape : Shape c
  pub one : 1 ≤ vertex_count c
  pub count : node_count c ≤ c.node_limit
  pub edges : (e : ℕ) → e < edge_count c → SoundEdge c e
  pub vertices : (v : ℕ) → v < vertex_count c → SoundVertex c v
  pub sides : (s : ℕ) → s < side_count c → SoundSide c s
  pub nodes : (n : ℕ) → n < node_count c → NodeNumbers c n
  pub once : (n : ℕ) → n < node_count c → parent_of c n ≡ 0 → ListsDistinct c n
  pub active : active_sound c ≡ true
  pub mark : c.graph.reweighted ≤ 1

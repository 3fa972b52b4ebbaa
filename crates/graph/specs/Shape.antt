-- What soundness says, as facts: the lengths of the lists of a state, and what holds of an edge, of a vertex, of a side.
use Rattle.std.specs.Prelude.{ℕ, ◌+◌, ◌*◌, ◌≤◌, ◌<◌, ◌≡◌, ◌≢◌, true, length}
use Rattle.graph.specs.State.{State, vertex_count, edge_count, side_count, node_count, end_at, weight_at, original_at, sides_at, virtual_at, growth_at, holder_at, grandson_at, defect_at, vertex_holder_at, vertex_grandson_at}
use Rattle.graph.specs.Open.{weight_limit, growth_limit, sides_of}
use Rattle.graph.specs.Sound.{stored_defect}

pub record Shape (c : State) : Type 0 where
  pub end : length c.graph.end ≡ 2 * edge_count c
  pub original : length c.graph.original ≡ edge_count c
  pub at : length c.graph.at ≡ vertex_count c
  pub defect : length c.vertices.defect ≡ vertex_count c
  pub vertex_holder : length c.vertices.vertex_holder ≡ vertex_count c
  pub vertex_grandson : length c.vertices.vertex_grandson ≡ vertex_count c
  pub growth : length c.sides.growth ≡ side_count c
  pub holder : length c.sides.holder ≡ side_count c
  pub grandson : length c.sides.grandson ≡ side_count c
  pub class : length c.nodes.class ≡ node_count c
  pub parent : length c.nodes.parent ≡ node_count c
  pub dual : length c.nodes.dual ≡ node_count c
  pub boundary : length c.nodes.boundary ≡ node_count c
  pub overgrown : length c.nodes.overgrown ≡ node_count c

pub record SoundEdge (c : State) (e : ℕ) : Type 0 where
  pub left : end_at c (2 * e) < vertex_count c
  pub right : end_at c (2 * e + 1) < vertex_count c
  pub differ : end_at c (2 * e) ≢ end_at c (2 * e + 1)
  pub weight : weight_at c e ≤ weight_limit
  pub original : original_at c e ≤ weight_limit

pub record SoundVertex (c : State) (v : ℕ) : Type 0 where
  pub virtual : virtual_at c v ≤ 1
  pub defect : defect_at c v ≤ 1
  pub vertex_holder : vertex_holder_at c v ≤ node_count c
  pub vertex_grandson : vertex_grandson_at c v ≤ node_count c
  pub sides : sides_at c v ≡ sides_of c.graph.end v

pub record SoundSide (c : State) (s : ℕ) : Type 0 where
  pub growth : growth_at c s ≤ growth_limit
  pub holder : holder_at c s ≤ node_count c
  pub grandson : grandson_at c s ≤ node_count c
  pub defect : holder_at c s ≢ 0 → stored_defect c (grandson_at c s) ≡ true

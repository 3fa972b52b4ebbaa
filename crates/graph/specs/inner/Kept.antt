-- What a loop over vertices and sides leaves alone.
use Rattle.std.specs.Prelude.{◌≡◌, length}
use Rattle.graph.specs.State.{State}

-- d is c with other holders and grandsons at most, and its lists are as long
pub record SameButHolders (c d : State) : Type 0 where
  pub graph : d.graph ≡ c.graph
  pub nodes : d.nodes ≡ c.nodes
  pub growth : d.sides.growth ≡ c.sides.growth
  pub defect : d.vertices.defect ≡ c.vertices.defect
  pub node_limit : d.node_limit ≡ c.node_limit
  pub store_limit : d.store_limit ≡ c.store_limit
  pub active : d.active ≡ c.active
  pub holder : length d.sides.holder ≡ length c.sides.holder
  pub grandson : length d.sides.grandson ≡ length c.sides.grandson
  pub vertex_holder : length d.vertices.vertex_holder ≡ length c.vertices.vertex_holder
  pub vertex_grandson : length d.vertices.vertex_grandson ≡ length c.vertices.vertex_grandson

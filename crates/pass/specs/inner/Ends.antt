-- Every side stands at a vertex.
use Rattle.std.specs.Prelude.{ℕ, ◌<◌, length}
use Rattle.graph.specs.State.{State, end_at}

-- every end is a vertex
abbrev pub EndsIn : State → Type 0
EndsIn c = (s : ℕ) → end_at c s < length c.vertices.vertex_holder

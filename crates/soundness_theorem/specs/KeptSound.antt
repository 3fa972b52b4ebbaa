-- What a call leaves of a sound state.
use Rattle.std.specs.Prelude.{◌≡◌, true}
use Rattle.graph.specs.State.{State, vertex_count, edge_count, side_count}
use Rattle.graph.specs.Sound.{state_sound}
use Rattle.graph.specs.Shape.{Shape}

-- d is sound, its lists have the lengths that V, E and the nodes fix, and V and E are those of c
pub record KeptSound (c d : State) : Type 0 where
  pub sounds : state_sound d ≡ true
  pub shape : Shape d
  pub vertices : vertex_count d ≡ vertex_count c
  pub edges : edge_count d ≡ edge_count c
  pub sides : side_count d ≡ side_count c

-- Marks of the sides and the vertices that outermost nodes list: 1 or 0.
use Rattle.std.specs.Prelude.{ℕ, ◌≤◌, ◌<◌, ◌≡◌, List, length, get_or}
use Rattle.graph.specs.State.{State, vertex_count, side_count, holder_at, vertex_holder_at}

-- nothing is marked whose holder, as it is stored, is above n
abbrev pub Unmarked : (ℕ → ℕ) → ℕ → List ℕ → Type 0
Unmarked holder n marks = (x : ℕ) → n < holder x → get_or marks x 0 ≡ 0

-- two arrays of marks, one over the sides and one over the vertices, in which this is so
pub record Marks (c : State) (n : ℕ) (sides vertices : List ℕ) : Type 0 where
  pub sides-room : side_count c ≤ length sides
  pub vertices-room : vertex_count c ≤ length vertices
  pub sides-left : Unmarked (holder_at c) n sides
  pub vertices-left : Unmarked (vertex_holder_at c) n vertices

-- What the length answer asks of a state. A shrinking preparation may leave a state that is not sound, but it leaves one that can be read.
use Rattle.std.specs.Prelude.{ℕ, ◌≤◌}
use Rattle.graph.specs.State.{State, node_count, growth_at, holder_at, dual_of}
use Rattle.graph.specs.Open.{dual_limit, growth_limit}

-- every holder is a node or none; growths and dual variables are within their limits
pub record Readable (c : State) : Type 0 where
  pub holders : (s : ℕ) → holder_at c s ≤ node_count c
  pub growths : (s : ℕ) → growth_at c s ≤ growth_limit
  pub duals : (n : ℕ) → dual_of c n ≤ dual_limit

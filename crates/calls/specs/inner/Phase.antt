-- What holds of a state between the calls of a round.
use Rattle.std.specs.Prelude.{◌≡◌, ℕ, ◌*◌, ◌<◌, true, nat_lt}
use Rattle.graph.specs.Basic.{all}
use Rattle.graph.specs.State.{State, edge_count, node_count, sides_at, parent_of}
use Rattle.graph.specs.inner.Readable.{Readable}
use Rattle.graph.specs.Shape.{Shape}
use Rattle.pass.specs.inner.Ready.{Shrinkable}
use Rattle.pass.specs.inner.Ends.{EndsIn}

-- the state while Shrink nodes are moved
pub record Phase (c : State) : Type 0 where
  pub shape : Shape c
  pub ends : EndsIn c
  pub sides : (v : ℕ) → all (λ t. nat_lt t (2 * edge_count c)) (sides_at c v) ≡ true
  pub readable : Readable c
  pub able : (n : ℕ) → n < node_count c → parent_of c n ≡ 0 → Shrinkable c n

-- What an accepted opening has shown.
use Rattle.std.specs.Prelude.{ℕ, ◌≡◌, Bool, true, List, ltb, length}
use Rattle.graph.specs.Basic.{all}
use Rattle.graph.specs.Open.{Edge, sizes_ok, edge_ok}

-- what an accepted opening has shown
pub record OpeningAccepted (v e n l : ℕ) (edges : List Edge) (virtuals : List ℕ) (fits : Bool) : Type 0 where
  pub sizes : sizes_ok v e n l ≡ true
  pub count : length edges ≡ e
  pub lengths : fits ≡ true
  pub vertices : all (λ x. ltb x v) virtuals ≡ true
  pub ends : all (edge_ok v) edges ≡ true

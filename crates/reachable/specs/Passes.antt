-- What it means that preparation ends: passes follow each other as long as each calls for another, and the last one calls for none.
use Rattle.std.specs.Prelude.{ℕ, zero, suc, ◌+◌, ◌<◌, ◌≡◌, true, false}
use Rattle.graph.specs.State.{State}
use Rattle.pass.specs.Work.{finish_pass}
use Rattle.pass.specs.Prepare.{Prepared, one_pass}

-- the state after k passes over node n in direction d
unfoldable pub passes : ℕ → State → ℕ → ℕ → State
passes zero c n d = c
passes (suc k) c n d = passes k (finish_pass (one_pass c n d) n) n d

-- r is what passes over node n of c give, where k were counted before: all but the last call for another, and the last for none
pub record Ends (c : State) (n d k : ℕ) (r : Prepared) : Type 0 where
  pub before : ℕ  -- the passes before the last
  pub counted : r.passes ≡ k + (before + 1)
  pub state : r.state ≡ passes (suc before) c n d
  pub others : (i : ℕ) → i < before → (one_pass (passes i c n d) n d).another ≡ true
  pub last : (one_pass (passes before c n d) n d).another ≡ false

-- What the active nodes are asked.
use Rattle.std.specs.Prelude.{ℕ, ◌≡◌, true, List, ℤ}
use Rattle.graph.specs.Basic.{member}
use Rattle.graph.specs.State.{State, grow_state_of}
use Rattle.graph.specs.Sound.{active_sound}
use Rattle.graph.specs.Layout.{state_of}
use Rattle.graph.specs.Form.{Formed}
use Rattle.graph.specs.inner.Form.{sides_ok}
use Rattle.graph.specs.inner.Readable.{Readable}
use Rattle.answers.specs.Outcome.{Answer}
use Rattle.update_length.specs.Scan.{scan}
use Rattle.calls.specs.Calls.{toward}

-- the length answer of node n, in its direction
unfoldable pub answer_of : State → ℕ → Answer
answer_of c n = scan c n (toward (grow_state_of c n))

-- a block whose active nodes can be asked
pub record Askable (b : List ℤ) : Type 0 where
  pub formed : Formed b
  pub readable : Readable (state_of b)
  pub active : active_sound (state_of b) ≡ true
  pub sides : (n : ℕ) → member n (state_of b).active ≡ true → sides_ok (state_of b) n ≡ true

-- A trial while it is made: entry by entry, and what memory allows it.
use Rattle.std.specs.Prelude.{◌≡◌, ℕ, true, ◌≢◌, List, ℤ, ◌==◌, slice_index, if◌then◌else◌}
use Rattle.graph.specs.State.{State, grow_state_of, growing, shrinking, up}
use Rattle.graph.specs.Active.{active_in}
use Rattle.graph.specs.Sound.{active_sound, sound}
use Rattle.graph.specs.Layout.{state_of}
use Rattle.graph.specs.Form.{Formed}
use Rattle.graph.specs.inner.Form.{Becomes}
use Rattle.pass.specs.Scratch.{scratch_of}
use Rattle.calls.specs.Calls.{toward}
use Rattle.calls.specs.Round.{Tried, begun, tried_by, try_all, none_of, sound_again}
use Rattle.calls.specs.inner.Phase.{Phase}
use Rattle.round_trial.specs.Trial.{node_call}

-- the call on entry i of the active list, if its node is in grow state x
unfoldable pub node_call_at : ℕ → ℕ → State → ℕ → Tried
node_call_at l x c i = if grow_state_of c (slice_index c.active i) == x then tried_by (node_call l (toward x) c (slice_index c.active i)) else begun c

-- the Grow nodes' part, from the state that the Shrink nodes' part leaves
unfoldable pub grown_from : ℕ → State → Tried
grown_from l c = try_all (node_call l up) (sound_again (active_in c shrinking) (active_in c growing) (begun c)) (active_in c growing)

-- after b₀: r is the number of the trial, and the block b holds its state
pub record TriedTo (b₀ b : List ℤ) (r : ℕ) (u : Tried) : Type 0 where
  pub refusal : r ≡ u.refusal
  pub block : Becomes b₀ b u.state

-- memory on which every active node in grow state x can have its call
pub record CallsPossible (x : ℕ) (b t : List ℤ) : Type 0 where
  pub formed : Formed b
  pub scratch : t ≡ scratch_of (state_of b)
  pub active : active_sound (state_of b) ≡ true
  pub known : x ≢ growing → x ≡ shrinking
  pub shrinks : x ≡ shrinking → Phase (state_of b)
  pub grows : x ≡ growing → sound (state_of b) ≡ true

-- memory after the Shrink nodes' part: sound where there was none
pub record Shrunk (b t : List ℤ) : Type 0 where
  pub formed : Formed b
  pub scratch : t ≡ scratch_of (state_of b)
  pub active : active_sound (state_of b) ≡ true
  pub still : none_of (active_in (state_of b) shrinking) ≡ true → sound (state_of b) ≡ true

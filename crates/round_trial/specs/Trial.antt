-- A trial of length l over the active nodes: a preparation of all where l is 0, else a round by l (SPECIFICATION 14.3).
use Rattle.std.specs.Prelude.{ℕ, zero, suc}
use Rattle.graph.specs.State.{State, down, up}
use Rattle.answers.specs.Answer.{Reply}
use Rattle.calls.specs.Round.{Tried, in_turn, preparing, moving}

-- the call on one node in direction d: a preparation where l is 0, else a growth by l
unfoldable pub node_call : ℕ → ℕ → State → ℕ → Reply
node_call zero d = preparing d
node_call (suc l) d = moving d (suc l)

-- the whole trial
unfoldable pub whole_trial : ℕ → State → Tried
whole_trial l c = in_turn (node_call l down) (node_call l up) c

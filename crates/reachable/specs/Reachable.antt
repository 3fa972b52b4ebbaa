-- The states that calls reach from open: any graph that open accepts, any calls in any order, refused ones among them.
use Rattle.std.specs.Prelude.{ℕ, ◌≡◌, Bool, List, [], ◌∷◌}
use Rattle.graph.specs.State.{State}
use Rattle.graph.specs.Open.{Edge, opened, open_refusal}
use Rattle.calls.specs.Calls.{Call, respond}

-- the state after a list of calls: each call's definition gives the next state, a refused call's too. Refusals 1 and 2 are given before any
-- definition is asked, and leave everything unchanged.
unfoldable pub after : State → List Call → State
after c [] = c
after c (k ∷ ks) = after (respond c k).state ks

-- c is reached from open: the numbers that open was given, that it accepted them, and the calls since
pub record Reachable (c : State) : Type 0 where
  pub vertices : ℕ  -- V
  pub edge_number : ℕ  -- E
  pub nodes : ℕ  -- N
  pub store : ℕ  -- L
  pub edges : List Edge
  pub virtuals : List ℕ
  pub fits : Bool  -- block and scratch have their exact lengths
  pub accepted-opening : open_refusal vertices edge_number nodes store edges virtuals fits ≡ 0
  pub calls : List Call
  pub is : c ≡ after (opened vertices nodes store edges virtuals) calls

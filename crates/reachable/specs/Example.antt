-- A computed run: three defects on edges of weight 0 and 2, a blossom over them, growth both ways, refused calls among the calls.
use Rattle.std.specs.Prelude.{◌≡◌, refl, true, List, [], ◌∷◌, pos, negsuc}
use Rattle.graph.specs.State.{State, blossom, class_of, dual_of, node_count}
use Rattle.graph.specs.Open.{Edge, opened, open_refusal}
use Rattle.graph.specs.Sound.{state_sound}
use Rattle.calls.specs.Opens.{everything}
use Rattle.calls.specs.Calls.{Call, InsertDefect, InsertBlossom, SetGrowState, Prepare, UpdateLength, Grow, Advance}
use Rattle.reachable.specs.Reachable.{after, Reachable}
use Rattle.reachable.specs.Theorems.{reachable-sound}

-- V 5, E 5, N 8, L 200: a ring of four vertices and one beside it
pub ring_edges : List Edge
ring_edges =
    record { left = 0; right = 1; weight = 0 } ∷ record { left = 1; right = 2; weight = 2 }
    ∷ record { left = 2; right = 3; weight = 2 } ∷ record { left = 3; right = 0; weight = 0 }
    ∷ record { left = 3; right = 4; weight = 2 } ∷ []

-- node 3 is the blossom; there is no node 9, and vertex 2 is a defect already
pub calls : List Call
calls =
    InsertDefect 0 1 ∷ InsertDefect 2 1 ∷ InsertDefect 4 1 ∷ Grow 0 (pos 1) ∷ Advance 1 ∷ Grow 2 (pos 1)
    ∷ InsertBlossom 1 (0 ∷ 1 ∷ 2 ∷ []) ∷ Grow 3 (pos 2) ∷ UpdateLength 3 0 true ∷ Grow 3 (negsuc 0) ∷ Prepare 3 0
    ∷ SetGrowState 9 1 ∷ InsertDefect 2 1 ∷ []

pub reached : State
reached = after (opened 5 8 200 ring_edges []) calls

accepted : open_refusal 5 5 8 200 ring_edges [] true ≡ 0
unfolding everything ring_edges
accepted = refl

is-reached : Reachable reached
unfolding reached
is-reached =
    record {
      vertices = 5;
      edge_number = 5;
      nodes = 8;
      store = 200;
      edges = ring_edges;
      virtuals = [];
      fits = true;
      accepted-opening = accepted;
      calls = calls;
      is = refl;
    }

-- the theorem at work
pub example-sound : state_sound reached ≡ true
example-sound = reachable-sound reached is-reached

-- the blossom was accepted as node 3, grew by 2 and shrank by 1
pub example-blossom : (node_count reached ≡ 4) × (class_of reached 3 ≡ blossom 0) × (dual_of reached 3 ≡ 1)
unfolding everything reached after ring_edges calls
example-blossom = (refl, refl, refl)

-- and by computation
pub example-computed : state_sound reached ≡ true
unfolding everything reached after ring_edges calls
example-computed = refl

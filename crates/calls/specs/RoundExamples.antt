-- Worked examples of a round for all clusters, as one theorem over a list of cases.
use Rattle.std.specs.Prelude.{◌≡◌, true, false, List, [], ◌∷◌, map, pos, negsuc}
use Rattle.std.specs.Prelude.{refl}
use Rattle.graph.specs.State.{State, defect_vertex}
use Rattle.graph.specs.Open.{opened}
use Rattle.graph.specs.Sound.{sound}
use Rattle.answers.specs.Outcome.{Length, Done, Node, Refused}
use Rattle.answers.specs.declared.MaxUpdateLength.TheVariants.{Conflicting, TouchingVirtual, VertexShrinkStop}
use Rattle.calls.specs.Calls.{InsertDefect, SetGrowState, ReadTable, RenewActiveList, GroupLength, Round, answered, growths, grouped}
use Rattle.calls.specs.Round.{group_free, group_unlimited, group_conflicts, prepare_all}
use Rattle.calls.specs.Examples.{◌gives◌, Example, given, wanted, edge}
use Rattle.calls.specs.Opens.{everything}

unfoldable pub round_examples : List Example
round_examples =
    -- without an active node the group is unlimited and not empty, and a round of any length above 0 is done
    record {
      start = opened 4 4 40 (edge 0 1 4 ∷ edge 1 2 4 ∷ edge 2 3 4 ∷ []) (0 ∷ 3 ∷ []);
      lines = GroupLength gives grouped (group_unlimited false) [] ∷ Round (pos 1000000001) gives answered Done
          ∷ Round (pos 0) gives answered (Refused 14) ∷ Round (negsuc 0) gives answered (Refused 14) ∷ [];
    } ∷
    -- two defects grow toward each other, half of the gap each; then they conflict, as each of them meets it
    record {
      start = opened 4 4 80 (edge 0 1 4 ∷ edge 1 2 4 ∷ edge 2 3 4 ∷ []) (0 ∷ 3 ∷ []);
      lines =
          InsertDefect 1 1 gives answered (Node 0) ∷ InsertDefect 2 1 gives answered (Node 1)
          ∷ GroupLength gives grouped (group_free (pos 2) false) [] ∷ Round (pos 2) gives answered Done
          ∷ ReadTable gives growths (0 ∷ 2 ∷ 2 ∷ 2 ∷ 2 ∷ 0 ∷ [])
          ∷ GroupLength gives grouped (group_conflicts 2 0) (Length (Conflicting 1 1 0 0) ∷ Length (Conflicting 0 0 1 1) ∷ [])
          ∷ Round (pos 1) gives answered (Refused 10)
          ∷ ReadTable gives growths (0 ∷ 2 ∷ 2 ∷ 2 ∷ 2 ∷ 0 ∷ []) ∷ [];
    } ∷
    -- a node that leaves Stay again keeps its place in the list until the list is renewed: node 0 is met first
    record {
      start = opened 4 4 80 (edge 0 1 2 ∷ edge 2 3 2 ∷ []) (0 ∷ 3 ∷ []);
      lines =
          InsertDefect 1 1 gives answered (Node 0) ∷ InsertDefect 2 1 gives answered (Node 1) ∷ Round (pos 2) gives answered Done
          ∷ SetGrowState 0 0 gives answered Done ∷ SetGrowState 0 1 gives answered Done
          ∷ GroupLength gives grouped (group_conflicts 2 0) (Length (TouchingVirtual 0 0 0) ∷ Length (TouchingVirtual 1 1 3) ∷ []) ∷ [];
    } ∷
    -- the same with a renewal between: node 1 is met first
    record {
      start = opened 4 4 80 (edge 0 1 2 ∷ edge 2 3 2 ∷ []) (0 ∷ 3 ∷ []);
      lines =
          InsertDefect 1 1 gives answered (Node 0) ∷ InsertDefect 2 1 gives answered (Node 1) ∷ Round (pos 2) gives answered Done
          ∷ SetGrowState 0 0 gives answered Done ∷ RenewActiveList gives answered Done ∷ SetGrowState 0 1 gives answered Done
          ∷ GroupLength gives grouped (group_conflicts 2 0) (Length (TouchingVirtual 1 1 3) ∷ Length (TouchingVirtual 0 0 0) ∷ []) ∷ [];
    } ∷
    -- stops by node number: node 1 was put into the list first
    record {
      start = opened 4 4 80 (edge 0 1 2 ∷ edge 1 2 2 ∷ edge 2 3 2 ∷ []) (3 ∷ []);
      lines =
          InsertDefect 2 0 gives answered (Node 0) ∷ InsertDefect 0 2 gives answered (Node 1)
          ∷ RenewActiveList gives answered Done ∷ SetGrowState 0 2 gives answered Done
          ∷ GroupLength gives grouped (group_conflicts 0 2) (Length (VertexShrinkStop 0) ∷ Length (VertexShrinkStop 1) ∷ []) ∷ [];
    } ∷ []

pub rounds-worked : map (λ (x : Example). given x.start x.lines) round_examples ≡ map (λ (x : Example). wanted x.lines) round_examples
unfolding everything given wanted edge round_examples
rounds-worked = refl

-- a sound state that no list of calls reaches: node 0 shrinks off vertex 0 and frees what node 1 lists; growing node 1 would list 7 of 6 sides
pub star : State
star = record {
  graph =
      record {
        end = 0 ∷ 1 ∷ 0 ∷ 2 ∷ 0 ∷ 3 ∷ [];
        weight = 2 ∷ 4 ∷ 4 ∷ [];
        original = 2 ∷ 4 ∷ 4 ∷ [];
        reweighted = 0;
        at = (0 ∷ 2 ∷ 4 ∷ []) ∷ (1 ∷ []) ∷ (3 ∷ []) ∷ (5 ∷ []) ∷ [];
        virtual = 0 ∷ 0 ∷ 0 ∷ 0 ∷ [];
      };
  vertices = record { defect = 0 ∷ 0 ∷ 0 ∷ 0 ∷ []; vertex_holder = 1 ∷ 2 ∷ 0 ∷ 0 ∷ []; vertex_grandson = 1 ∷ 2 ∷ 0 ∷ 0 ∷ [] };
  sides = record { growth = 0 ∷ 2 ∷ 0 ∷ 0 ∷ 0 ∷ 0 ∷ []; holder = 2 ∷ 2 ∷ 2 ∷ 2 ∷ 2 ∷ 2 ∷ []; grandson = 2 ∷ 2 ∷ 2 ∷ 2 ∷ 2 ∷ 2 ∷ [] };
  nodes = record {
    class = defect_vertex 3 ∷ defect_vertex 1 ∷ [];
    grow_state = 2 ∷ 1 ∷ [];
    parent = 0 ∷ 0 ∷ [];
    dual = 0 ∷ 0 ∷ [];
    boundary = [] ∷ (0 ∷ 1 ∷ 2 ∷ 3 ∷ 4 ∷ 5 ∷ []) ∷ [];
    overgrown = (record { vertex = 0; amount = 0 } ∷ []) ∷ [] ∷ [];
  };
  node_limit = 4;
  store_limit = 400;
  active = 0 ∷ 1 ∷ [];
}

pub star-refused : (sound star ≡ true) × ((prepare_all star).answer ≡ Refused 2)
unfolding everything star
star-refused = (refl, refl)

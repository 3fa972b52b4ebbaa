-- The worked examples P1 to P9 (SPECIFICATION 13.1), as one theorem over a list of cases: the answers to the calls, and
-- the tables.
use Rattle.std.specs.Prelude.{◌≡◌, ℕ, true, false, List, [], ◌∷◌, ◌++◌, map, pos, negsuc}
use Rattle.std.specs.Prelude.{refl}
use Rattle.graph.specs.State.{State}
use Rattle.graph.specs.Open.{Edge, opened}
use Rattle.answers.specs.Outcome.{Length, Done, Node, Refused}
use Rattle.answers.specs.declared.MaxUpdateLength.TheVariants.{NonZeroGrow, Conflicting, TouchingVirtual, VertexShrinkStop}
use Rattle.calls.specs.Calls.{Call, InsertDefect, UpdateLength, Grow, ReadTable, Outcome, answered, growths, respond}
use Rattle.calls.specs.Opens.{everything}

infix 70 ◌gives◌
-- a call, and what it must give
pub data Line : Type 0 where
  ◌gives◌ : Call → Outcome → Line

-- a worked example: an opened graph, and the calls in order
pub record Example : Type 0 where
  pub start : State
  pub lines : List Line

-- what the calls give, from state c on
unfoldable pub given : State → List Line → List Outcome
given c [] = []
given c ((k gives o) ∷ ls) = (respond c k).outcome ∷ given (respond c k).state ls

-- what they must give
unfoldable pub wanted : List Line → List Outcome
wanted [] = []
wanted ((k gives o) ∷ ls) = o ∷ wanted ls

unfoldable pub edge : ℕ → ℕ → ℕ → Edge
edge a b w = record { left = a; right = b; weight = w }

-- graph P with a middle edge of weight w, and the two other graphs
unfoldable pub graph_p : ℕ → State
graph_p w = opened 4 4 40 (edge 0 1 4 ∷ edge 1 2 w ∷ edge 2 3 4 ∷ []) (0 ∷ 3 ∷ [])

unfoldable pub graph_p7 : State
graph_p7 = opened 3 4 40 (edge 0 1 2 ∷ edge 1 2 6 ∷ []) (2 ∷ [])

unfoldable pub graph_p9 : State
graph_p9 = opened 4 4 40 (edge 0 1 2 ∷ edge 0 2 2 ∷ edge 1 2 2 ∷ edge 2 3 20 ∷ []) (3 ∷ [])

-- a defect in Grow, a length prepared growing, a length prepared shrinking
unfoldable pub defect : ℕ → Call
defect v = InsertDefect v 1

unfoldable pub ask_grow : ℕ → Call
ask_grow n = UpdateLength n 1 true

unfoldable pub ask_shrink : ℕ → Call
ask_shrink n = UpdateLength n 0 true

-- the runs of P1 and P7, which P2 and P8 go on from
unfoldable pub run_p1 : List Line
run_p1 =
    defect 1 gives answered (Node 0) ∷
    defect 2 gives answered (Node 1) ∷
    ask_grow 0 gives answered (Length (NonZeroGrow (pos 2) false)) ∷
    Grow 0 (pos 2) gives answered Done ∷
    Grow 1 (pos 2) gives answered Done ∷
    ask_grow 0 gives answered (Length (Conflicting 1 1 0 0)) ∷
    ReadTable gives growths (0 ∷ 2 ∷ 2 ∷ 2 ∷ 2 ∷ 0 ∷ []) ∷ []

unfoldable pub run_p7 : List Line
run_p7 = defect 1 gives answered (Node 0) ∷ Grow 0 (pos 2) gives answered Done ∷ ask_grow 0 gives answered (Length (NonZeroGrow (pos 4) false)) ∷ []

unfoldable pub both_defects : List Line
both_defects = defect 1 gives answered (Node 0) ∷ defect 2 gives answered (Node 1) ∷ []

-- P1 to P9, in order
unfoldable pub examples : List Example
examples =
    record { start = graph_p 4; lines = run_p1 } ∷
    record { start = graph_p 4; lines = run_p1 ++ (Grow 0 (negsuc 1) gives answered Done ∷ ask_shrink 0 gives answered (Length (VertexShrinkStop 0)) ∷ []) } ∷
    record { start = graph_p 4; lines = both_defects ++ (Grow 0 (pos 4) gives answered Done ∷ []) } ∷
    record { start = graph_p 4; lines = both_defects ++ (Grow 0 (pos 5) gives answered (Refused 10) ∷ []) } ∷
    record {
      start = graph_p 4;
      lines = defect 1 gives answered (Node 0) ∷ Grow 0 (pos 4) gives answered Done
          ∷ ask_grow 0 gives answered (Length (TouchingVirtual 0 0 0)) ∷ [];
    }
    ∷
    record { start = graph_p 5; lines = both_defects ++ (Grow 0 (pos 4) gives answered Done ∷ ask_grow 1 gives answered (Length (Conflicting 0 0 1 1)) ∷ []) } ∷
    record { start = graph_p7; lines = run_p7 } ∷
    record {
      start = graph_p7;
      lines = run_p7 ++ (Grow 0 (pos 3) gives answered Done ∷ ReadTable gives growths (0 ∷ 2 ∷ 5 ∷ 0 ∷ []) ∷ Grow 0 (negsuc 3) gives answered (Refused 11) ∷ []);
    } ∷
    record {
      start = graph_p9;
      lines =
          defect 0 gives answered (Node 0) ∷ Grow 0 (pos 2) gives answered Done ∷ Grow 0 (pos 3) gives answered Done
          ∷ ReadTable gives growths (2 ∷ 0 ∷ 2 ∷ 0 ∷ 3 ∷ 3 ∷ 3 ∷ 0 ∷ []) ∷ [];
    } ∷ []

-- every call of every example gives what it must
pub worked : map (λ (x : Example). given x.start x.lines) examples ≡ map (λ (x : Example). wanted x.lines) examples
unfolding everything given wanted edge graph_p graph_p7 graph_p9 defect ask_grow ask_shrink run_p1 run_p7 both_defects examples
worked = refl

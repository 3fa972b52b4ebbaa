-- Worked examples of a change of weights, as one theorem over a list of cases.
use Rattle.std.specs.Prelude.{◌≡◌, ℕ, false, List, [], ◌∷◌, map, pos}
use Rattle.std.specs.Prelude.{refl}
use Rattle.answers.specs.Outcome.{Length, Done, Node, Refused}
use Rattle.answers.specs.declared.MaxUpdateLength.TheVariants.{Conflicting, NonZeroGrow}
use Rattle.calls.specs.Calls.{InsertDefect, Clear, LoadEdgeModifier, answered}
use Rattle.calls.specs.Erasures.{EdgeWeight}
use Rattle.calls.specs.Examples.{◌gives◌, Example, given, wanted, edge, graph_p, ask_grow}
use Rattle.calls.specs.Opens.{everything}

unfoldable pub takes : ℕ → ℕ → EdgeWeight
takes e w = record { edge = e; weight = w }

unfoldable pub erasure_examples : List Example
erasure_examples =
    -- of an edge named twice the last weight stays; clear gives the first original back. Edge 0 counts whole, edge 1 half
    record {
      start = graph_p 4;
      lines =
          LoadEdgeModifier (takes 1 2 ∷ takes 0 9 ∷ takes 1 8 ∷ []) gives answered Done
          ∷ InsertDefect 1 1 gives answered (Node 0) ∷ InsertDefect 2 1 gives answered (Node 1)
          ∷ ask_grow 0 gives answered (Length (NonZeroGrow (pos 4) false)) ∷ Clear gives answered Done
          ∷ InsertDefect 1 1 gives answered (Node 0) ∷ InsertDefect 2 1 gives answered (Node 1)
          ∷ ask_grow 0 gives answered (Length (NonZeroGrow (pos 2) false)) ∷ [];
    } ∷
    -- an erased edge: weight 0, and both its ends touch at once
    record {
      start = graph_p 4;
      lines =
          LoadEdgeModifier (takes 1 0 ∷ []) gives answered Done ∷ InsertDefect 1 1 gives answered (Node 0)
          ∷ InsertDefect 2 1 gives answered (Node 1) ∷ ask_grow 0 gives answered (Length (Conflicting 1 1 0 0)) ∷ [];
    } ∷
    -- an edge that is none before a weight out of range, wherever they stand, and that before what stands
    record {
      start = graph_p 4;
      lines =
          LoadEdgeModifier (takes 0 4 ∷ []) gives answered Done
          ∷ LoadEdgeModifier (takes 0 1000001 ∷ takes 3 2 ∷ []) gives answered (Refused 3)
          ∷ LoadEdgeModifier (takes 0 2 ∷ takes 1 1000001 ∷ []) gives answered (Refused 4)
          ∷ LoadEdgeModifier (takes 0 2 ∷ []) gives answered (Refused 16) ∷ LoadEdgeModifier [] gives answered (Refused 16)
          ∷ Clear gives answered Done ∷ LoadEdgeModifier (takes 0 2 ∷ []) gives answered Done ∷ [];
    } ∷
    -- an empty list leaves no mark; a refused insertion makes no node; a node refuses the empty list too
    record {
      start = graph_p 4;
      lines =
          LoadEdgeModifier [] gives answered Done ∷ LoadEdgeModifier [] gives answered Done
          ∷ InsertDefect 9 1 gives answered (Refused 3) ∷ LoadEdgeModifier (takes 2 0 ∷ []) gives answered Done
          ∷ Clear gives answered Done ∷ InsertDefect 1 1 gives answered (Node 0)
          ∷ LoadEdgeModifier [] gives answered (Refused 16) ∷ [];
    } ∷ []

pub erasures-worked : map (λ (x : Example). given x.start x.lines) erasure_examples ≡ map (λ (x : Example). wanted x.lines) erasure_examples
unfolding everything given wanted edge graph_p ask_grow takes erasure_examples
erasures-worked = refl

use Prim.Native.Nat.{◌+◌}
use mathlib.Core.Path.{◌≡◌}
use mathlib.Core.List.{map}
use lib.ListN.{drop}
use Rattle.graph.specs.Word.{to_nat}
use Rattle.graph.specs.Layout.{state_of}
use Rattle.calls.specs.Refuse.{entries_but}
use Rattle.blossom.proofs.entries_in.Given as goal

abbrev pub invariant-loop-word : goal.invariant-loop-word
invariant-loop-word l =
    (l.sum + entries_but (state_of l.b) (map to_nat l.circle) ≡ entries_but (state_of l.b)
    (drop l.word-index (map to_nat l.circle)))

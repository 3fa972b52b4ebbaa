use mathlib.Core.List.{map}
use Rattle.graph.specs.Layout.{state_of}
use Rattle.graph.specs.Word.{to_nat}
use Rattle.blossom.specs.laws.Blossom.{Preparing}
use Rattle.blossom.specs.laws.Keeps.{Remains}
use Rattle.blossom.proofs.prepare_members.Given as goal

abbrev pub invariant-loop-word : goal.invariant-loop-word
invariant-loop-word l = Preparing l.initial.b l.b l.t (map to_nat l.circle) l.word-index
    × Remains l.ask l.kept (state_of l.b) (map to_nat l.circle) l.word-index (state_of l.initial.b)

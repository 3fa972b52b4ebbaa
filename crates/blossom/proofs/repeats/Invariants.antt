use mathlib.Core.Path.{◌≡◌}
use mathlib.Core.List.{map}
use lib.ListN.{length}
use Rattle.graph.specs.Word.{to_nat}
use Rattle.blossom.specs.laws.Circle.{Met}
use Rattle.blossom.proofs.repeats.Given as goal

abbrev pub invariant-loop-word : goal.invariant-loop-word
invariant-loop-word l = Met (map to_nat l.circle) l.word-index l.marks × (length l.marks ≡ 1024)

use mathlib.Core.Path.{◌≡◌}
use mathlib.Core.List.{map}
use lib.ListN.{length}
use Rattle.graph.specs.Word.{to_nat}
use Rattle.table_refuse.specs.laws.Distinct.{Met}
use Rattle.table_refuse.proofs.refuse.all_distinct.Given as goal

abbrev pub invariant-loop-x : goal.invariant-loop-x
invariant-loop-x l = Met (map to_nat l.defects) l.x-index l.marks × (length l.marks ≡ 1024)

use mathlib.Core.List.{map}
use lib.ListN.{take}
use Rattle.graph.specs.Basic.{fold}
use Rattle.graph.specs.Word.{to_nat}
use Rattle.graph.specs.Layout.{state_of}
use Rattle.update_length.specs.Scan.{scan_step}
use Rattle.update_length.specs.inner.Length.{scan_of, Knows}
use Rattle.update_length.proofs.scan.scan_sides.Given as goal

abbrev pub invariant-loop-word : goal.invariant-loop-word
invariant-loop-word l =
    Knows l.r (fold (scan_step (state_of l.b) l.n l.d) (scan_of l.initial.r)
    (take l.word-index (map to_nat l.boundary)))

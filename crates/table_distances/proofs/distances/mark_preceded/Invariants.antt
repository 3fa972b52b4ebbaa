use Rattle.table_words.specs.Sides.{near_in, marks_by}
use Rattle.table_distances.specs.Certificate.{precedes_at}
use Rattle.table_words.specs.Handed.{distance_in}
use mathlib.Core.Path.{◌≡◌}
use Rattle.table_distances.proofs.distances.mark_preceded.Given as goal

abbrev pub invariant-loop-s : goal.invariant-loop-s
invariant-loop-s l = l.m ≡ marks_by (precedes_at l.edges (distance_in l.row)) (near_in l.edges) l.initial.m l.s

use Rattle.table_rows.specs.Row.{covers_at}
use Rattle.table_words.specs.Sides.{marks_by}
use Rattle.table_words.specs.Handed.{distance_in}
use mathlib.Core.Path.{◌≡◌}
use Rattle.table_rows.proofs.rows.cover.Given as goal

abbrev pub invariant-loop-u : goal.invariant-loop-u
invariant-loop-u l = l.m ≡ marks_by (covers_at (distance_in l.row) l.y) (λ x. x) l.initial.m l.u

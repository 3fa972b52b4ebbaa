use Rattle.table_words.specs.Sides.{marks_by}
use Rattle.graph.specs.Word.{word_at}
use mathlib.Core.Bool.{true}
use mathlib.Core.Path.{◌≡◌}
use Rattle.table_check.proofs.reach.mark_virtuals.Given as goal

abbrev pub invariant-loop-x : goal.invariant-loop-x
invariant-loop-x l = l.m ≡ marks_by (λ k. true) (word_at l.virtuals) l.initial.m l.x-index

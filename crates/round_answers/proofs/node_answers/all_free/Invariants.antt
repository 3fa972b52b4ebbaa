use mathlib.Core.Path.{◌≡◌}
use Rattle.calls.specs.Round.{answers_of, is_free}
use Rattle.graph.specs.Layout.{state_of}
use Rattle.graph.specs.Basic.{all}
use lib.ListN.{drop}
use Rattle.round_answers.proofs.node_answers.all_free.Given as goal

abbrev pub invariant-loop-i : goal.invariant-loop-i
invariant-loop-i l = all is_free (answers_of (state_of l.b) (drop l.i (state_of l.b).active)) ≡ all is_free
    (answers_of (state_of l.b) (state_of l.b).active)

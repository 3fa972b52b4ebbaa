use Rattle.calls.specs.Round.{answers_of, first_refusal}
use mathlib.Core.Path.{◌≡◌}
use Rattle.graph.specs.Layout.{state_of}
use lib.ListN.{drop}
use Rattle.round_answers.proofs.node_answers.first_refusal.Given as goal

abbrev pub invariant-loop-i : goal.invariant-loop-i
invariant-loop-i l = first_refusal (answers_of (state_of l.b) (drop l.i (state_of l.b).active)) ≡ first_refusal
    (answers_of (state_of l.b) (state_of l.b).active)

use Rattle.calls.specs.Round.{answers_of, join_free}
use Rattle.calls.specs.Group.{found_as, Unlimited as group_unlimited}
use Rattle.graph.specs.Layout.{state_of}
use Rattle.graph.specs.Basic.{fold}
use lib.ListN.{drop}
use mathlib.Core.Bool.{false}
use mathlib.Core.Path.{◌≡◌}
use Rattle.round_answers.proofs.node_answers.free_group.Given as goal

abbrev pub invariant-loop-i : goal.invariant-loop-i
invariant-loop-i l =
    fold join_free (found_as l.g) (answers_of (state_of l.b) (drop l.i (state_of l.b).active))
    ≡ fold join_free (group_unlimited false) (answers_of (state_of l.b) (state_of l.b).active)

use Rattle.std.specs.Prelude.{◌≡◌, eqb, drop}
use Rattle.calls.specs.Round.{none_of}
use Rattle.graph.specs.Layout.{state_of}
use Rattle.graph.specs.Active.{active_in}
use Rattle.graph.specs.State.{grow_state_of}
use Rattle.graph.specs.Basic.{only}
use Rattle.round_trial.proofs.trial.none_in.Given as goal

abbrev pub invariant-loop-i : goal.invariant-loop-i
invariant-loop-i l = none_of
    (only (λ n. eqb (grow_state_of (state_of l.b) n) l.x) (drop l.i (state_of l.b).active)) ≡ none_of
    (active_in (state_of l.b) l.x)

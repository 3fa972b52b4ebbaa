use Rattle.dual_module_round.specs.laws.Called.{refuses, trial-lent, second-usable, on-trial}
use lib.ListN.{length}
use mathlib.Core.Path.{ap, ◌∙◌}
use Rattle.dual_module_round.proofs.trial.Goals as goal

pub begin-requires : goal.begin-requires
begin-requires c = (trial-lent _ _ _ c.requires.0).1

pub in_turn-tried-requires : goal.in_turn-tried-requires
in_turn-tried-requires c =
    let g = c.begin.ensures in (
      second-usable _ _ _ _ _ c.requires.0 g.0 g.1,
      c.requires.1,
    )

pub end-requires : goal.end-requires
end-requires c =
    c.in_turn-tried.auto.b
    ∙ ap length c.begin.ensures.0

pub returns : goal.returns
returns c =
    let g =
    c.begin.ensures in
    let p = c.in_turn-tried.ensures in
    let e = c.end.ensures in
    rw c.trial_answer.ensures
    (on-trial _ _ _ _ _ _ _ _
    c.args.l
    _
    c.requires.0
    g.0 p.0 (p.1 ∙ g.1) (rw (c.is_err.ensures.value, refuses _) at e.0) e.1)

use Rattle.std.proofs.Common.{refl}
use Rattle.std.proofs.lemmas.Result.{err_from_is_err_and}
use Rattle.refusal.specs.Refusal.{number-some}
use Rattle.round_trial.specs.laws.InTurn.{renewed-going, turn-stops, shrunk-part, turn-ends}
use Rattle.graph.specs.laws.Shape.{sound-active}
use mathlib.Core.Path.{◌∙◌}
use Rattle.round_trial.proofs.trial.in_turn.Goals as goal

pub renew-requires : goal.renew-requires
renew-requires c = let u = c.requires.0 in (u.formed, sound-active _ u.sounds)

pub phase-requires : goal.phase-requires
phase-requires c = (
  renewed-going _ _ _ c.requires.0 c.renew.ensures,
  c.requires.1,
)

pub returns-in_err-phase : goal.returns-in_err-phase
returns-in_err-phase c =
    let p = err_from_is_err_and c.from_residual.result c.from_residual.ensures.1 in
    rw (p.1, p.2)
    (let p = c.in_err-phase.ensures in (
      turn-stops _ _ _ c.requires.0
          c.renew.ensures _ _
          c.args.l _ p.0 p.1 (number-some _),
      p.1,
    ))

pub grow_phase-requires : goal.grow_phase-requires
grow_phase-requires c =
    let p = c.in_ok-phase.ensures in (
      shrunk-part _ _ _ c.requires.0
          c.renew.ensures _ _
          c.args.l _ p.0 p.1
          refl,
      c.requires.1,
    )

pub returns : goal.returns
returns c =
    let p = c.in_ok-phase.ensures in
    let g = c.grow_phase.ensures in (
      turn-ends _ _ _
          c.requires.0
          c.renew.ensures _ _
          c.args.l
          _
          p.0 p.1 refl _ _ g.0,
      g.1 ∙ p.1,
    )

use Rattle.round_trial.specs.laws.InTurn.{grow-none, grow-stopped, grow-going, grow-ends}
use mathlib.Core.Path.{refl, sym, ◌∙◌}
use Rattle.round_trial.proofs.trial.grow_phase.Goals as goal

pub returns-then-none_in : goal.returns-then-none_in
returns-then-none_in c = (grow-none _ _ c.args.l c.requires.0 (sym c.none_in.ensures ∙ c.if-none_in.true), refl)

pub phase-requires : goal.phase-requires
phase-requires c = (
  grow-going _ _ c.args.l
      c.requires.0
      (sym c.may_grow.ensures ∙ c.if-may_grow.true),
  c.requires.1,
)

pub returns-then-may_grow : goal.returns-then-may_grow
returns-then-may_grow c =
    let p = c.phase.ensures in (
      grow-ends _ _ c.args.l
          c.requires.0
          (sym c.none_in.ensures
          ∙ c.if-none_in.false)
          (sym c.may_grow.ensures
          ∙ c.if-may_grow.true)
          _ _
          p.0,
      p.1,
    )

pub returns : goal.returns
returns c = (
  grow-stopped _ _ c.args.l
      c.requires.0
      (sym c.none_in.ensures ∙ c.if-none_in.false)
      (sym c.may_grow.ensures ∙ c.if-may_grow.false),
  refl,
)

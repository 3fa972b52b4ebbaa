use native.Mathlib.Omega.{arith}
use mathlib.Core.Path.{sym, ◌∙◌, refl}
use Rattle.record_call.specs.laws.Asking.{kind-there}
use Rattle.record_step.specs.laws.Standing.{standing-few, turned-stop, ill-stops}
use borrow.Author.Rules.{rules}
use Rattle.record_step.proofs.one_record.step_record.Goals as goal

pub pair-kind-requires : goal.pair-kind-requires
pair-kind-requires c = omega (arith, kind-there _ (sym c.well_formed-2.ensures ∙ c.if-well_formed.true))

pub gather-requires : goal.gather-requires
gather-requires c = (
  c.requires.0,
  c.requires.1,
  (λ e. standing-few _ c.requires.3 e),
  record {
    formed = sym c.well_formed-2.ensures
        ∙ c.if-well_formed.true;
    is = sym c.pair-kind.ensures.0;
    short = c.requires.4;
  },
  c.if-kind-le3.true,
  c.requires.5.edge-words,
  c.requires.5.virtual-words,
)

pub returns-then-kind-le3 : goal.returns-then-kind-le3
returns-then-kind-le3 c =
    let e = c.gather.ensures in (
      e.0
          c.args.block.now,
      e.1,
      refl,
    )

pub asked-requires : goal.asked-requires
asked-requires c = (
  c.requires.0,
  c.requires.1,
  c.requires.3,
  record {
    formed = sym c.well_formed-2.ensures
        ∙ c.if-well_formed.true;
    is = sym c.pair-kind.ensures.0;
    short = c.requires.4;
  },
  omega arith,
  c.requires.5,
)

pub returns : goal.returns
returns c =
    let e = c.stop.ensures in (
      turned-stop 3
          (ill-stops _ _ _
          (sym c.well_formed-2.ensures
          ∙ c.if-well_formed.false)
          c.requires.1)
          e.0 e.1,
      e.2,
      refl,
    )

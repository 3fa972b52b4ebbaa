use Rattle.refusal.specs.Refusal.{number-some}
use mathlib.Core.Path.{refl}
use Rattle.record_step.specs.laws.Standing.{turned-stop, open-refused, opened-runs, turned-open}
use borrow.Author.Rules.{rules}
use Rattle.record_step.proofs.one_record.first.Goals as goal

pub returns-in-Err : goal.returns-in-Err
returns-in-Err c =
    let e = c.stop.ensures in (
      turned-stop _
          (open-refused c.requires.3 c.requires.4 _ _ _ _ _ _ c.requires.5.edge-words c.requires.1 _
          c.in-Err.ensures.0
          (number-some _))
          e.0 e.1,
      e.2,
      refl,
    )

pub ask-out-requires : goal.ask-out-requires
ask-out-requires c = (
  c.requires.0,
  opened-runs c.args.block.now c.requires.2 c.requires.5.edge-words
      c.in_default.ensures refl,
  c.requires.3,
  c.requires.4,
  search rules,
  c.requires.5.scratch-words,
  c.requires.5.zero,
)

pub returns : goal.returns
returns c =
    let q = c.in_default.ensures in
    let e = c.ask-out.ensures in (
      turned-open c.requires.3 c.requires.4 _ _ _ c.args.block.now _ _ c.requires.5.edge-words c.requires.1 _ q.0
          refl q.1 e.1 e.0,
      refl,
      e.2,
    )

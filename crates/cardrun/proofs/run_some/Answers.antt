use Rattle.std.proofs.Common.{length, sym, ◌∙◌, arith}
use borrow.Author.Rules.{rules}
use Rattle.lines_export.specs.Whole.{whole_at}
use Rattle.lines_export.specs.laws.Stream.{whole-ends}
use Rattle.cardrun.specs.laws.Blocks.{along-start, along-step, along-moved, more-there}
use Rattle.cardrun.proofs.run_some.Goals as goal

pub loop-lines-init : goal.loop-lines-init
loop-lines-init c =
    let p = c.requires in
    let w = whole-ends _ _ p.1 in
    along-start _ _ _ _ _ _ p.4 (omega arith) p.5

pub step_whole-t-requires : goal.step_whole-t-requires
step_whole-t-requires c =
    let l = c.loop-lines in
    let input = c.args.input.now in
    let t = more-there l.r.stage l.o.at (length l.lines) (whole_at input l.i) (sym c.another.ensures.0 ∙ c.loop-lines-test.true) in
    let w = whole-ends input l.i t.2 in (
      t.2,
      l.invariant.room,
      t.0,
      omega (arith, w, c.requires.3, l.invariant.counted),
      l.invariant.standing,
      l.invariant.suffices,
    )

pub loop-lines-preserved : goal.loop-lines-preserved
loop-lines-preserved c =
    let l = c.loop-lines in
    let e = c.step_whole-t.ensures in
    let w = whole_at c.args.input.now l.i in
    let t = more-there l.r.stage l.o.at (length l.lines) w (sym c.another.ensures.0 ∙ c.loop-lines-test.true) in
    along-step l.invariant e.0 e.1 e.2 e.3 e.4 t.1 (search rules) (search rules) (search rules)

pub returns : goal.returns
returns c =
    let p = c.requires in
    let i = c.loop-lines.invariant in (
      i.run,
      i.room,
      along-moved i p.1 p.2 (search rules) (sym c.another.ensures.0 ∙ c.loop-lines-test.false),
      i.place,
      i.counted,
      i.kept,
    )

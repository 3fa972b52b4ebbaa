use Rattle.std.proofs.Common.{◌≡◌, ◌<◌, length, false, refl, sym, ◌∙◌, arith}
use borrow.Author.Rules.{rules}
use Rattle.lines_export.specs.Whole.{whole_at}
use Rattle.record_step.specs.laws.Standing.{roomy-kept}
use Rattle.cardrun.specs.laws.Blocks.{ran-none, ran_then, lost_then, ran-standing, more-there, none-whole}
use Rattle.cardrun.proofs.run_block.Goals as goal

pub loop-lines-init : goal.loop-lines-init
loop-lines-init g c = let p = c.requires in (ran-none, omega arith, omega arith, p.2, p.3, refl)

pub tell_some-requires : goal.tell_some-requires
tell_some-requires g c =
    let l = c.loop-lines in
    let p = c.requires in
    let w = whole_at c.args.input.now l.i in
    let t = more-there l.r.stage 0 (length l.lines) w (sym c.another.ensures.0 ∙ c.loop-lines-test.true) in
    (search rules, t.2, t.0, omega (arith, p.1, l.invariant.2), l.invariant.3, l.invariant.4)

pub loop-lines-preserved : goal.loop-lines-preserved
loop-lines-preserved g c =
    let i = c.loop-lines.invariant in
    let e = c.in_ok-t.ensures in (
      ran_then i.0 e.ran,
      e.place.1,
      omega (arith, e.place.2, i.2),
      ran-standing e.ran i.3,
      roomy-kept i.4 (search rules) e.kept (search rules) (search rules),
      e.kept ∙ i.5,
    )

pub returns-in_err-t-clause-lost : goal.returns-in_err-t-clause-lost
returns-in_err-t-clause-lost g c = let h = lost_then c.loop-lines.invariant.0 c.in_err-t.ensures.lost in search rules

pub returns-clause-cut : goal.returns-clause-cut
returns-clause-cut g c =
    let l = c.loop-lines in
    let x = c.another.ensures in
    let w = whole_at c.args.input.now l.i in
    let n : l.r.stage < 3 → w ≡ false =
    λ on. none-whole l.r.stage 0 (length l.lines) w (sym x.0 ∙ c.loop-lines-test.false) (search rules) on in
    (n, λ on. x.1 (n on))

use native.Mathlib.Omega.{arith}
use mathlib.Core.Path.{◌≡◌, refl}
use Rattle.record_step.specs.laws.Standing.{stands-gathering, stands-running, turned-stop, call-early, turned-call}
use borrow.Author.Rules.{rules}
use Rattle.record_step.proofs.one_record.asked.Goals as goal

pub returns-then-r-eq0 : goal.returns-then-r-eq0
returns-then-r-eq0 c =
    let e = c.stop.ensures in
    (turned-stop 3 (call-early c.requires.3 c.requires.4 _ _ c.if-r-eq0.true) e.0 e.1, e.2, refl)

pub first-requires : goal.first-requires
first-requires c = (
  c.requires.0,
  c.if-r-eq1.true,
  stands-gathering _ c.requires.2.at c.requires.2.stands c.if-r-eq1.true,
  c.requires.3,
  c.requires.4,
  c.requires.5,
)

pub ask-out-requires : goal.ask-out-requires
ask-out-requires c =
    let two : c.args.r.stage ≡ 2 = omega arith in
    (c.requires.0, stands-running _ c.requires.2.at c.requires.2.stands two, c.requires.3, c.requires.4, c.requires.5.words, c.requires.5.scratch-words, c.requires.5.zero)

pub returns : goal.returns
returns c =
    let two : c.args.r.stage ≡ 2 = omega arith in
    let e = c.ask-out.ensures in
    (turned-call c.requires.3 c.requires.4 _ _ _ _ _ two e.1 e.0, refl, e.2)

use mathlib.Core.Path.{refl, ap}
use Rattle.c_api.specs.Words.{open_numbers}
use Rattle.c_api.specs.laws.Words.{tells_as, open-number, told-short, told-all}
use borrow.Author.Rules.{rules}
use Rattle.c_api.proofs.fb_open.Goals as goal

pub returns-then-answer-lt5 : goal.returns-then-answer-lt5
returns-then-answer-lt5 c = told-short c.if-answer-lt5.true c.refuse_short.ensures refl

pub returns : goal.returns
returns c =
    told-all (search rules) _ c.open-opened.ensures
    (tells_as c.tell_opened.ensures (ap open_numbers (open-number c.open-opened.result)))

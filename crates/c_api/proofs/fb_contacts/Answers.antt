use mathlib.Core.Path.{refl}
use Rattle.std.specs.Prelude.{Ok, Err}
use Rattle.c_api.specs.laws.Words.{told-short, told-all}
use borrow.Author.Rules.{rules}
use Rattle.c_api.proofs.fb_contacts.Goals as goal

pub returns-then-answer-lt5 : goal.returns-then-answer-lt5
returns-then-answer-lt5 c = told-short c.if-answer-lt5.true c.refuse_short.ensures refl

pub returns-in-Ok : goal.returns-in-Ok
returns-in-Ok c =
    told-all (search rules) (Ok c.in-Ok.count) c.in-Ok.ensures c.tell_counted.ensures

pub returns-in-Err : goal.returns-in-Err
returns-in-Err c =
    told-all (search rules) (Err c.in-Err.refusal) c.in-Err.ensures c.tell_counted-in-Err.ensures

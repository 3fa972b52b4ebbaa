use Rattle.c_api.specs.laws.Words.{told-short, told-all}
use borrow.Author.Rules.{rules}
use Rattle.c_api_check.proofs.fb_check_table.Goals as goal

pub returns-then-answer-lt5 : goal.returns-then-answer-lt5
returns-then-answer-lt5 c = told-short c.if-answer-lt5.true c.refuse_short.ensures tt

pub returns : goal.returns
returns c = told-all (search rules) _ c.check_table-verdict.ensures c.tell_verdict.ensures

use Rattle.c_api_calls.specs.laws.Run.{made_none, made_all}
use borrow.Author.Rules.{rules}
use Rattle.c_api_calls.proofs.make_calls.Goals as goal

pub returns-then-words-ne0 : goal.returns-then-words-ne0
returns-then-words-ne0 c = made_none (search rules)

pub returns : goal.returns
returns c = made_all (search rules) c.make_all-s.ensures

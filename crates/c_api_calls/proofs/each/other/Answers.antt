use Rattle.answers.specs.Numbers.{answer_numbers}
use borrow.Author.Rules.{rules}
use Rattle.c_api_calls.proofs.each.other.Goals as goal

pub returns : goal.returns
unfolding answer_numbers
returns c = c.tell_plain.ensures

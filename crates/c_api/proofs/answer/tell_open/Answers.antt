use borrow.Author.Tests.{eq-eqb, ne_eqb}
use Rattle.c_api.specs.Words.{open_answer, answer_numbers}
use Rattle.c_api.specs.laws.Words.{tells_as}
use Rattle.c_api.proofs.answer.tell_open.Goals as goal

pub returns-then-k-eq0 : goal.returns-then-k-eq0
unfolding open_answer answer_numbers
returns-then-k-eq0 c = tells_as c.front.ensures (rw (eq-eqb _ _ c.if-k-eq0.true))

pub returns-else-k-eq0 : goal.returns-else-k-eq0
unfolding open_answer answer_numbers
returns-else-k-eq0 c = tells_as c.front-else-k-eq0.ensures (rw (ne_eqb _ _ c.if-k-eq0.false))

use mathlib.Core.Path.{refl}
use lib.ListN.{length}
use borrow.Author.Tests.{lt-leb, le-leb}
use Rattle.c_api.specs.Words.{answer_numbers, short_list, short_count}
use borrow.Author.Rules.{rules}
use Rattle.c_api.proofs.answer.refuse_short.Goals as goal

pub returns-then-list-lt2 : goal.returns-then-list-lt2
unfolding short_list short_count
returns-then-list-lt2 c = rw (lt-leb 2 (length c.args.list.now) c.if-list-lt2.true) (refl, refl)

pub returns : goal.returns
unfolding short_list short_count answer_numbers
returns c =
    rw (le-leb 2 (length c.args.list.now) (search rules))
    (c.front.ensures.count, c.front.ensures.listed)

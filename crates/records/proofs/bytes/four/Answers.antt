use Rattle.records.specs.Record.{four_at}
use borrow.Author.Rules.{rules}
use Rattle.records.proofs.bytes.four.Goals as goal

pub returns : goal.returns
unfolding four_at
returns c = (cc, search rules)

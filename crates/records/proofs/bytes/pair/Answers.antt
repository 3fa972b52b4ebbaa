use Rattle.records.specs.Record.{pair_at}
use borrow.Author.Rules.{rules}
use Rattle.records.proofs.bytes.pair.Goals as goal

pub returns : goal.returns
unfolding pair_at
returns c = (cc, search rules)

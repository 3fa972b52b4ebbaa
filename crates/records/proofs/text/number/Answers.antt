use Rattle.records.specs.laws.Write.{written_then}
use borrow.Author.Rules.{rules}
use Rattle.records.proofs.text.number.Goals as goal

pub returns : goal.returns
returns c = written_then c.byte-m.ensures c.decimal.ensures

use Rattle.records.specs.Record.{field}
use borrow.Author.Rules.{rules}
use Rattle.records.proofs.bytes.field.Goals as goal

pub returns : goal.returns
unfolding field
returns c = (cc, search rules)

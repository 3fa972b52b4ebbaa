use Rattle.records.specs.Record.{fields_fit}
use borrow.Author.Rules.{rules}
use Rattle.records.proofs.record.fields_fit.Goals as goal

pub returns : goal.returns
unfolding fields_fit
returns c = cc

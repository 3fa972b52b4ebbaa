use Rattle.records.specs.Setup.{from_sizes}
use borrow.Author.Rules.{rules}
use Rattle.records.proofs.setup.sizes.Goals as goal

pub returns : goal.returns
unfolding from_sizes
returns c = cc

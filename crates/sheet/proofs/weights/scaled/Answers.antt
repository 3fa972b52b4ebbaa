use Rattle.sheet.specs.Weight.{scaled}
use borrow.Author.Rules.{rules}
use Rattle.sheet.proofs.weights.scaled.Goals as goal

pub returns : goal.returns
unfolding scaled
returns c = (cc, search rules)

use borrow.Author.Rules.{rules}
use Rattle.sheet.specs.laws.Sheet.{largest-told}
use Rattle.sheet.proofs.values.largest.Goals as goal

pub returns : goal.returns
returns c = largest-told c.args.sheet.now c.fold.result (search rules)

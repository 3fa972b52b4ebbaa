use borrow.Author.Rules.{rules}
use Rattle.sheet.specs.laws.Sheet.{in-range-told}
use Rattle.sheet.proofs.values.all_in_range.Goals as goal

pub returns : goal.returns
returns c = in-range-told c.args.sheet.now c.all.result (search rules)

use borrow.Author.Rules.{rules}
use Rattle.open_graph.specs.laws.Open.{virtuals-told}
use Rattle.open_graph.proofs.given.virtuals_ok.Goals as goal

pub returns : goal.returns
returns c = virtuals-told c.args.v c.args.virtuals.now c.all.result (search rules)

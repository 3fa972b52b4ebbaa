use Rattle.graph.specs.Form.{Laid}
use Rattle.graph.specs.laws.Row.{rowed-mark}
use borrow.Author.Rules.{rules}
use Rattle.graph.proofs.rows.put_reweighted.Goals as goal

pub put-requires : goal.put-requires
unfolding Laid
put-requires c = search rules

pub returns : goal.returns
returns c = rw c.put.ensures (rowed-mark c.args.b.now c.args.x c.requires.0)

use Rattle.records.specs.Text.{ascii}
use Rattle.records.specs.laws.Write.{told-as}
use Rattle.records.specs.laws.Table.{edge-line}
use borrow.Author.Rules.{rules}
use Rattle.records.proofs.table.edge_line.Goals as goal

pub returns : goal.returns
unfolding ascii
returns c =
    told-as c.tell_three.ensures
    (edge-line _ _ _ _ _ c.growth-x.ensures.0
    c.growth-y.ensures.0)

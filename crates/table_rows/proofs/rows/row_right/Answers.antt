use Rattle.table_rows.specs.Row.{row_right}
use Rattle.table_rows.proofs.rows.row_right.Goals as goal

pub returns : goal.returns
unfolding row_right
returns c = cc

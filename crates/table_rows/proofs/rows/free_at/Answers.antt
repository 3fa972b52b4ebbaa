use Rattle.table_rows.specs.Row.{free_at}
use Rattle.table_rows.proofs.rows.free_at.Goals as goal

pub returns : goal.returns
unfolding free_at
returns c = cc

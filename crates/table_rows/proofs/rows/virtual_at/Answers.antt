use Rattle.table_rows.specs.Row.{virtual_pair_at}
use Rattle.table_rows.proofs.rows.virtual_at.Goals as goal

pub returns : goal.returns
unfolding virtual_pair_at
returns c = cc

use Rattle.table_rows.specs.Row.{defect_pair_at}
use Rattle.table_rows.proofs.rows.pair_at.Goals as goal

pub returns : goal.returns
unfolding defect_pair_at
returns c = cc

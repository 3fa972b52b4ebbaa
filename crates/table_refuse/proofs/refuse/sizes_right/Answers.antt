use Rattle.table_refuse.specs.Refuse.{sizes_right}
use Rattle.table_refuse.proofs.refuse.sizes_right.Goals as goal

pub returns : goal.returns
unfolding sizes_right
returns c = cc

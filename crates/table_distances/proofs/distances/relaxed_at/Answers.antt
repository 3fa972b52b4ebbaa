use Rattle.table_distances.specs.Certificate.{relaxed_at}
use Rattle.table_distances.proofs.distances.relaxed_at.Goals as goal

pub returns : goal.returns
unfolding relaxed_at
returns c = cc

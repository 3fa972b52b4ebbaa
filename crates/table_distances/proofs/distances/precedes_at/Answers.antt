use Rattle.table_distances.specs.Certificate.{precedes_at}
use Rattle.table_distances.proofs.distances.precedes_at.Goals as goal

pub returns : goal.returns
unfolding precedes_at
returns c = cc

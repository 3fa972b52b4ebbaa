use Rattle.table_distances.specs.Certificate.{settled_at}
use Rattle.distance.specs.Distance.{unreachable}
use Rattle.table_distances.proofs.distances.settled_at.Goals as goal

pub returns : goal.returns
unfolding settled_at unreachable
returns c = cc

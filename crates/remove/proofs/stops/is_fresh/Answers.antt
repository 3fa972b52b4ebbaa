use Rattle.remove.specs.inner.Stops.{free_by}
use Rattle.remove.proofs.stops.is_fresh.Goals as goal

pub returns : goal.returns
unfolding free_by
returns c = cc

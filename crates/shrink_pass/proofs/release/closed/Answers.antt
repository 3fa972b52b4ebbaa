use Rattle.pass.specs.Shrink.{closed}
use Rattle.shrink_pass.proofs.release.closed.Goals as goal

pub returns : goal.returns
unfolding closed
returns c = cc

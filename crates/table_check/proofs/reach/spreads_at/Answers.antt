use Rattle.table_check.specs.Tests.{spreads_at}
use Rattle.table_check.proofs.reach.spreads_at.Goals as goal

pub returns : goal.returns
unfolding spreads_at
returns c = cc

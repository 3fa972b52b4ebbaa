use Rattle.table_check.specs.Tests.{spread_side}
use Rattle.table_check.proofs.reach.spread_side.Goals as goal

pub returns : goal.returns
unfolding spread_side
returns c = (cc, cc)

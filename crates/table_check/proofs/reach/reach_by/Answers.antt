use Rattle.table_check.specs.Tests.{all_marked}
use Rattle.table_check.proofs.reach.reach_by.Goals as goal

pub returns : goal.returns
unfolding all_marked
returns c = rw c.each_marked.ensures cc

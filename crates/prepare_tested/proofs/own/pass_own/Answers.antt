use Rattle.pass.specs.KeepsSound.{pass_own}
use Rattle.prepare_tested.specs.laws.Cases.{and_same}
use Rattle.prepare_tested.proofs.own.pass_own.Goals as goal

pub returns : goal.returns
unfolding pass_own
returns c = and_same c.tops_may_go-tops.ensures c.sides_may_go-sides.ensures

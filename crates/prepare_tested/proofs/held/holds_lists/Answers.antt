use Rattle.pass.specs.KeepsSound.{holds_lists}
use Rattle.prepare_tested.specs.laws.Cases.{and_same}
use Rattle.prepare_tested.proofs.held.holds_lists.Goals as goal

pub returns : goal.returns
unfolding holds_lists
returns c = and_same c.holds_sides-sides.ensures c.holds_stack-stack.ensures

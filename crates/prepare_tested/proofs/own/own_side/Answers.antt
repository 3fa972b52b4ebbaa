use Rattle.graph.specs.Layout.{state_of}
use Rattle.prepare_tested.specs.laws.Cases.{own-side-is}
use Rattle.prepare_tested.proofs.own.own_side.Goals as goal

pub returns : goal.returns
returns c = let a = c.args in own-side-is a.n (state_of a.b.now) a.s c.holder-h.ensures.0

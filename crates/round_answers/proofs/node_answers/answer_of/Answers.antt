use Rattle.round_answers.specs.inner.Asked.{answer_of}
use Rattle.graph.specs.laws.Active.{active-below}
use Rattle.graph.specs.Layout.{state_of}
use Rattle.round_answers.proofs.node_answers.answer_of.Goals as goal

pub grow_state-requires : goal.grow_state-requires
grow_state-requires c = (c.requires.0.formed, active-below (state_of c.args.b.now) c.requires.0.active c.args.n c.requires.1)

pub scan-requires : goal.scan-requires
scan-requires c = (
  c.requires.0.formed,
  c.requires.0.readable,
  active-below (state_of c.args.b.now) c.requires.0.active c.args.n c.requires.1,
  c.requires.0.sides c.args.n c.requires.1,
)

pub returns : goal.returns
unfolding answer_of
returns c = rw (← c.grow_state.ensures.0, ← c.direction-d.ensures.0) c.scan.ensures

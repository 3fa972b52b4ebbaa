use Rattle.graph.specs.laws.Members.{member-at}
use Rattle.graph.specs.Layout.{state_of}
use Rattle.round_answers.proofs.node_answers.answer_at.Goals as goal

pub answer_of-requires : goal.answer_of-requires
answer_of-requires c =
    (c.requires.0, rw c.active_node-n.ensures.0 (member-at (state_of c.args.b.now).active c.args.i 0 c.requires.1))

pub returns : goal.returns
returns c = rw (← c.active_node-n.ensures.0) c.answer_of.ensures

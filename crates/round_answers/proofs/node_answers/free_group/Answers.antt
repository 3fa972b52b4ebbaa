use Rattle.round_answers.specs.laws.Answers.{group-more, group-all}
use Rattle.calls.specs.Group.{found_as, Unlimited as group_unlimited}
use Rattle.graph.specs.Layout.{state_of}
use mathlib.Core.Bool.{false}
use mathlib.Core.Path.{refl}
use native.Mathlib.Omega.{arith}
use Rattle.round_answers.proofs.node_answers.free_group.Goals as goal

pub loop-i-init : goal.loop-i-init
loop-i-init c = refl

pub loop-i-preserved : goal.loop-i-preserved
loop-i-preserved c =
    rw (c.join_free-g.ensures, c.answer_at.ensures)
    (group-more (state_of c.args.b.now)
    (state_of c.args.b.now).active c.loop-i.i
    (found_as c.loop-i.g) (group_unlimited false) c.loop-i.invariant (omega arith))

pub returns : goal.returns
returns c =
    group-all (state_of c.args.b.now)
    (state_of c.args.b.now).active c.loop-i.i (found_as c.loop-i.g)
    (group_unlimited false) c.loop-i.invariant (omega arith)

use mathlib.Core.Path.{refl}
use Rattle.graph.specs.Layout.{state_of}
use Rattle.calls.proofs.laws.Keeps.{asked-true, length-plain-passes}
use Rattle.calls.proofs.tested.compute_maximum_update_length_dual_node.Goals as goal

pub returns-then-first : goal.returns-then-first
returns-then-first c =
    let f = c.if-first.true in
    let p = c.length_prepared.ensures in
    (rw f p.0, p.1, rw f p.3)

pub returns : goal.returns
returns c =
    let f = c.if-first.false in
    (rw f c.length_unprepared-answer.ensures, refl, asked-true c.args.ask (rw f (length-plain-passes (state_of c.args.b.now) c.args.n c.args.d)))

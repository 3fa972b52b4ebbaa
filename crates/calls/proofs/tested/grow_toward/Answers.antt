use Rattle.refusal.specs.Refusal.{number-some}
use mathlib.Core.Path.{refl}
use Rattle.graph.specs.Layout.{state_of}
use Rattle.calls.proofs.laws.Replies.{accepted-ready, accepted-able, prepared-grows, toward-refused, toward-accepted, toward-done}
use Rattle.calls.proofs.laws.Keeps.{asked-true, asked-as, toward-refused-passes, toward-accepted-asks}
use Rattle.calls.proofs.tested.grow_toward.Goals as goal

pub returns-in-Err : goal.returns-in-Err
returns-in-Err c = (
  toward-refused c.requires.0.formed c.args.n c.args.d c.args.l _ c.in-Err.ensures
      (number-some _),
  refl,
  asked-true c.args.ask
      (toward-refused-passes (state_of c.args.b.now) c.args.n c.args.d _ c.in-Err.ensures
      (number-some _)),
)

pub prepare_asked-p-requires : goal.prepare_asked-p-requires
prepare_asked-p-requires c =
    let a =
    toward-accepted c.requires.0.formed c.args.n c.args.d c.args.l _
    c.in_default.ensures refl in
    (accepted-ready c.requires.0 _ a, accepted-able c.requires.0 _ a)

pub grow_prepared-answer-requires : goal.grow_prepared-answer-requires
grow_prepared-answer-requires c =
    let a =
    toward-accepted c.requires.0.formed c.args.n c.args.d c.args.l _
    c.in_default.ensures
    refl in
    let p = c.prepare_asked-p.ensures.0 in
    (p.block.formed, prepared-grows c.requires.0 _ a p, c.requires.1)

pub returns : goal.returns
returns c =
    let q = c.prepare_asked-p.ensures in (
      toward-done c.requires.0.formed c.args.n c.args.d c.args.l _
          c.in_default.ensures
          refl q.0 c.grow_prepared-answer.ensures,
      q.0.scratch,
      asked-as c.args.ask q.3
          (toward-accepted-asks (state_of c.args.b.now) c.args.n c.args.d _
          c.in_default.ensures
          refl),
    )

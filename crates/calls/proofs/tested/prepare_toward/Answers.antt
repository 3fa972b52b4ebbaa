use Rattle.refusal.specs.Refusal.{number-some}
use mathlib.Core.Path.{refl}
use Rattle.graph.specs.Layout.{state_of}
use Rattle.calls.proofs.laws.Replies.{prepare-refused, prepare-accepted, prepare-done, accepted-ready, accepted-able}
use Rattle.calls.proofs.laws.Keeps.{asked-true, asked-as, prepare-refused-passes, prepare-accepted-asks}
use Rattle.calls.proofs.tested.prepare_toward.Goals as goal

pub returns-in-Err : goal.returns-in-Err
returns-in-Err c = (
  prepare-refused c.requires.formed c.args.n c.args.d _ c.in-Err.ensures (number-some _),
  refl,
  asked-true c.args.ask
      (prepare-refused-passes (state_of c.args.b.now) c.args.n c.args.d _ c.in-Err.ensures
      (number-some _)),
)

pub prepare_asked-p-requires : goal.prepare_asked-p-requires
prepare_asked-p-requires c =
    let a =
    prepare-accepted c.requires.formed c.args.n c.args.d _ c.in_default.ensures
    refl in
    (accepted-ready c.requires _ a, accepted-able c.requires _ a)

pub returns : goal.returns
returns c =
    let q = c.prepare_asked-p.ensures in (
      prepare-done c.requires.formed c.args.n c.args.d _
          c.in_default.ensures
          refl q.0,
      q.0.scratch,
      asked-as c.args.ask q.3
          (prepare-accepted-asks (state_of c.args.b.now) c.args.n c.args.d _
          c.in_default.ensures
          refl),
    )

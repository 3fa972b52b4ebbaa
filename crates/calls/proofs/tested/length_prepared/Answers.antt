use mathlib.Core.Path.{◌∙◌}
use Rattle.refusal.specs.Refusal.{number-some}
use mathlib.Core.Path.{refl}
use Rattle.std.specs.Prelude.{true}
use Rattle.graph.specs.Layout.{state_of}
use Rattle.calls.proofs.laws.Replies.{length-refused, length-accepted, length-prepared, usable-steady, accepted-ready, accepted-able, prepared-grows, prepared-steady}
use Rattle.calls.proofs.laws.Keeps.{asked-true, asked-as, length-refused-passes, length-accepted-asks}
use Rattle.calls.proofs.tested.length_prepared.Goals as goal

pub returns-in-Err : goal.returns-in-Err
returns-in-Err c = (
  length-refused c.requires.formed c.args.n c.args.d _ true c.in-Err.ensures (number-some _),
  refl,
  usable-steady c.requires c.args.n c.args.d,
  asked-true c.args.ask
      (length-refused-passes (state_of c.args.b.now) c.args.n c.args.d _ c.in-Err.ensures
      (number-some _)),
)

pub prepare_asked-p-requires : goal.prepare_asked-p-requires
prepare_asked-p-requires c =
    let a =
    length-accepted c.requires.formed c.args.n c.args.d _ true c.in_default.ensures
    refl in (
      accepted-ready (usable-steady c.requires c.args.n c.args.d) _ a,
      accepted-able (usable-steady c.requires c.args.n c.args.d) _ a,
    )

pub scan-requires : goal.scan-requires
scan-requires c =
    let a =
    length-accepted c.requires.formed c.args.n c.args.d _ true c.in_default.ensures refl in
    let p = c.prepare_asked-p.ensures.0 in
    let g = prepared-grows (usable-steady c.requires c.args.n c.args.d) _ a p in
    (p.block.formed, g.readable, g.node, g.sides)

pub returns : goal.returns
returns c =
    let a =
    length-accepted c.requires.formed c.args.n c.args.d _ true c.in_default.ensures refl in
    let q = c.prepare_asked-p.ensures in (
      length-prepared c.requires.formed c.args.n c.args.d _ true c.in_default.ensures refl
          refl q.0 (c.answered-answer.ensures ∙ c.scan.ensures),
      q.0.scratch,
      prepared-steady (usable-steady c.requires c.args.n c.args.d) _ a q.0 q.2,
      asked-as c.args.ask q.3
          (length-accepted-asks (state_of c.args.b.now) c.args.n c.args.d _ c.in_default.ensures refl),
    )

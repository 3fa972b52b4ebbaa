use Rattle.refusal.specs.Refusal.{number-some}
use mathlib.Core.Path.{refl, sym, ◌∙◌}
use Rattle.calls.proofs.laws.Accepted.{node-accepted}
use Rattle.calls.proofs.laws.Advance.{advance-refused, advance-stay, advance-moves}
use Rattle.graph.specs.Layout.{state_of}
use Rattle.calls.proofs.laws.Keeps.{asked-true, asked-as, advance-refused-passes, advance-stay-passes, advance-moves-asks}
use Rattle.calls.proofs.tested.advance.Goals as goal

pub returns-in-Err : goal.returns-in-Err
returns-in-Err c = (
  advance-refused c.args.b.now c.args.n _ c.in-Err.ensures c.requires.formed (number-some _),
  refl,
  asked-true c.args.ask (advance-refused-passes (state_of c.args.b.now) c.args.n _ c.in-Err.ensures (number-some _)),
)

pub grow_state-x-requires : goal.grow_state-x-requires
grow_state-x-requires c = (
  c.requires.formed,
  (node-accepted _ c.args.n _ _ (sym c.in_default.ensures ∙ refl)).inside,
)

pub returns-then-x-eq-STAY : goal.returns-then-x-eq-STAY
returns-then-x-eq-STAY c = (
  advance-stay c.args.b.now c.args.n _ c.in_default.ensures
      refl _ c.grow_state-x.ensures.0 c.requires.formed c.if-x-eq-STAY.true,
  refl,
  asked-true c.args.ask
      (advance-stay-passes (state_of c.args.b.now) c.args.n _ c.in_default.ensures
      refl _ c.grow_state-x.ensures.0 c.if-x-eq-STAY.true),
)

pub returns : goal.returns
returns c =
    let p = c.advance_by.ensures in (
      advance-moves c.args.b.now c.args.n _ c.in_default.ensures
          refl _ c.grow_state-x.ensures.0 c.if-x-eq-STAY.false p.0,
      p.1,
      asked-as c.args.ask p.2
          (advance-moves-asks (state_of c.args.b.now) c.args.n _ c.in_default.ensures
          refl _ c.grow_state-x.ensures.0 c.if-x-eq-STAY.false),
    )

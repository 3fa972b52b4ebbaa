use mathlib.Core.Path.{sym, ap, ◌∙◌, refl}
use Rattle.round_trial.specs.laws.Trying.{none-yes, none-no, none_more, entry-node}
use Rattle.graph.specs.Layout.{state_of}
use Rattle.graph.specs.Active.{active_in}
use Rattle.graph.specs.State.{grow_state_of}
use native.Mathlib.Omega.{arith}
use Rattle.round_trial.proofs.trial.none_in.Goals as goal

pub loop-i-init : goal.loop-i-init
unfolding active_in
loop-i-init c = refl

pub grow_state-requires : goal.grow_state-requires
grow_state-requires c = (
  c.requires.0,
  omega (
    arith,
    c.active_node-n.ensures.0,
    entry-node (state_of c.args.b.now) c.loop-i.i c.requires.1 (omega arith),
  ),
)

pub returns-then-grow_state-x : goal.returns-then-grow_state-x
returns-then-grow_state-x c =
    none-no (state_of c.args.b.now)
    c.args.x c.loop-i.i
    c.loop-i.invariant (omega arith)
    (ap (grow_state_of (state_of c.args.b.now))
    (sym c.active_node-n.ensures.0)
    ∙ sym c.grow_state.ensures.0 ∙ c.if-grow_state-x.true)

pub loop-i-preserved : goal.loop-i-preserved
loop-i-preserved c =
    none_more (state_of c.args.b.now)
    c.args.x c.loop-i.i
    c.loop-i.invariant (omega arith)
    (λ e. c.if-grow_state-x.false
    (c.grow_state.ensures.0
    ∙ ap (grow_state_of (state_of c.args.b.now))
    c.active_node-n.ensures.0
    ∙ e))

pub returns : goal.returns
returns c =
    none-yes (state_of c.args.b.now) c.args.x c.loop-i.i
    c.loop-i.invariant (omega arith)

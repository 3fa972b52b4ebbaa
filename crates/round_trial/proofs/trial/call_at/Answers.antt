use Rattle.round_trial.specs.laws.Trying.{entry-node}
use Rattle.round_trial.specs.laws.Step.{going-steady, turn-there, turn-passed}
use Rattle.graph.specs.Layout.{state_of}
use mathlib.Core.Path.{refl, sym, ◌∙◌}
use native.Mathlib.Omega.{arith}
use Rattle.round_trial.proofs.trial.call_at.Goals as goal

pub grow_state-requires : goal.grow_state-requires
grow_state-requires c = (
  c.requires.0.formed,
  omega (
    arith,
    c.active_node-n.ensures.0,
    entry-node (state_of c.args.b.now) c.args.i c.requires.0.active c.requires.1,
  ),
)

pub call_node-requires : goal.call_node-requires
call_node-requires c =
    (rw c.direction-d.ensures.0 (going-steady c.args.x _ _ c.requires.0 _), c.requires.2)

pub returns-then-grow_state-x : goal.returns-then-grow_state-x
returns-then-grow_state-x c =
    let p = c.call_node.ensures in (
      turn-there c.args.l c.args.x c.args.i
          c.active_node-n.result
          c.active_node-n.ensures.0
          (sym c.grow_state.ensures.0
          ∙ c.if-grow_state-x.true)
          (rw c.direction-d.ensures.0 at p.0),
      p.1,
    )

pub returns : goal.returns
returns c = (
  turn-passed c.args.l c.args.x c.args.i c.active_node-n.result
      c.active_node-n.ensures.0 c.requires.0.formed
      (λ e. c.if-grow_state-x.false (c.grow_state.ensures.0 ∙ e)),
  refl,
)

use mathlib.Core.Path.{sym, ap, ◌∙◌}
use Rattle.graph.specs.Node.{node_at, class_number}
use Rattle.graph.specs.State.{vertex_count}
use Rattle.graph.specs.Layout.{state_of}
use Rattle.graph.specs.laws.Top.{class-number}
use Rattle.graph.proofs.top.node.Goals as goal

pub returns : goal.returns
unfolding node_at
returns c = (
  rw (
    sym (class-number (vertex_count (state_of c.args.b.now)) _)
        ∙ ap (class_number (vertex_count (state_of c.args.b.now)))
        c.class.ensures.0,
    c.grow_state.ensures.0,
    c.parent.ensures.0,
    c.dual.ensures.0,
    c.overgrown_len.ensures.0,
    c.amount.ensures.0,
  ),
  c.amount.ensures.1,
)

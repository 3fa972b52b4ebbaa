use mathlib.Core.Path.{sym, ◌∙◌}
use Rattle.graph.specs.Layout.{state_of}
use Rattle.node_tests.specs.laws.Removed.{parent-node}
use Rattle.graph.specs.Sound.{node_live}
use Rattle.node_tests.proofs.removed.node_live.Goals as goal

pub live_or_none-requires : goal.live_or_none-requires
live_or_none-requires c =
    (c.requires.0, rw c.parent-p.ensures.0 (parent-node (state_of c.args.b.now) c.requires.1 c.args.n c.requires.2))

pub first_live-requires : goal.first_live-requires
first_live-requires c =
    (c.requires.0, c.requires.1, c.requires.2, sym c.is_removed.ensures ∙ c.if-is_removed.false)

pub returns-then-is_removed : goal.returns-then-is_removed
unfolding node_live
returns-then-is_removed c = rw (← c.is_removed.ensures, c.if-is_removed.true, ← c.emptied.ensures)

pub returns-else-is_removed : goal.returns-else-is_removed
unfolding node_live
returns-else-is_removed c =
    rw (
      ← c.is_removed.ensures,
      c.if-is_removed.false,
      ← c.parent-p.ensures.0,
      ← c.live_or_none.ensures,
      ← c.first_live.ensures,
    )

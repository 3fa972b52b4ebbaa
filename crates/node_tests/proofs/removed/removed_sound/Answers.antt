use Rattle.graph.specs.laws.Form.{formed-shape}
use Rattle.graph.specs.laws.Removed.{none-removed}
use Rattle.graph.specs.Sound.{sound_removed}
use Rattle.graph.specs.Layout.{state_of}
use mathlib.Core.Path.{sym, ◌∙◌}
use Rattle.node_tests.proofs.removed.removed_sound.Goals as goal

pub returns-then-none_removed : goal.returns-then-none_removed
returns-then-none_removed c =
    sym
    (none-removed (state_of c.args.b.now) (formed-shape _ c.requires.0).class
    (sym c.none_removed.ensures ∙ c.if-none_removed.true))

pub returns-else-none_removed : goal.returns-else-none_removed
unfolding sound_removed
returns-else-none_removed c = rw (c.nodes_live.ensures, c.vertices_live.ensures, c.sides_live.ensures)

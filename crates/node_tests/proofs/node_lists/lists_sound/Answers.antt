use mathlib.Core.Path.{sym, ◌∙◌}
use Rattle.node_tests.proofs.node_lists.lists_sound.Goals as goal

pub returns-then-boundary_sound : goal.returns-then-boundary_sound
returns-then-boundary_sound c = rw (sym c.boundary_sound.ensures ∙ c.if-boundary_sound.true) c.overgrown_sound.ensures

pub returns-else-boundary_sound : goal.returns-else-boundary_sound
returns-else-boundary_sound c = rw (sym c.boundary_sound.ensures ∙ c.if-boundary_sound.false)

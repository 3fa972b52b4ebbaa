use mathlib.Core.Path.{sym, ◌∙◌}
use Rattle.growth.specs.inner.Moving.{refuses}
use Rattle.growth.proofs.refuses.Goals as goal

pub returns-then-node_refuses : goal.returns-then-node_refuses
unfolding refuses
returns-then-node_refuses c = rw (sym c.node_refuses.ensures ∙ c.if-node_refuses.true)

pub returns-else-node_refuses : goal.returns-else-node_refuses
unfolding refuses
returns-else-node_refuses c = rw (sym c.node_refuses.ensures ∙ c.if-node_refuses.false) c.boundary_refuses.ensures

use mathlib.Core.Path.{refl}
use Rattle.edge_modifier.specs.inner.Refusals.{refusal_of_mark}
use Rattle.edge_modifier.proofs.mark_refusal.Goals as goal

pub returns-then-n-x : goal.returns-then-n-x
unfolding refusal_of_mark
returns-then-n-x c = rw (← c.node_count-n.ensures.0, ← c.reweighted-x.ensures.0, c.if-n-x.true) refl

pub returns-else-n-x : goal.returns-else-n-x
unfolding refusal_of_mark
returns-else-n-x c = rw (← c.node_count-n.ensures.0, ← c.reweighted-x.ensures.0, c.if-n-x.false) refl

use mathlib.Core.Path.{sym, ◌∙◌}
use Rattle.edge_modifier.specs.inner.Refusals.{refusal_of_weights}
use Rattle.edge_modifier.proofs.weights_refusal.Goals as goal

pub returns : goal.returns
unfolding refusal_of_weights
returns c = rw (sym c.weights_in_range.ensures ∙ c.if-not-weights_in_range.false) c.mark_refusal.ensures

pub returns-then-not-weights_in_range : goal.returns-then-not-weights_in_range
unfolding refusal_of_weights
returns-then-not-weights_in_range c = rw (sym c.weights_in_range.ensures ∙ c.if-not-weights_in_range.true)

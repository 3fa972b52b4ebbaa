use mathlib.Core.Path.{sym, ◌∙◌}
use Rattle.open_graph.specs.inner.Refusals.{refusal_of_virtuals}
use Rattle.open_graph.proofs.open.virtuals_refusal.Goals as goal

pub returns-then-not-virtuals_ok : goal.returns-then-not-virtuals_ok
unfolding refusal_of_virtuals
returns-then-not-virtuals_ok c = rw (sym c.virtuals_ok.ensures ∙ c.if-not-virtuals_ok.true)

pub returns : goal.returns
unfolding refusal_of_virtuals
returns c = rw (sym c.virtuals_ok.ensures ∙ c.if-not-virtuals_ok.false) c.edges_refusal.ensures

use mathlib.Core.Path.{sym, ◌∙◌}
use Rattle.open_graph.specs.inner.Refusals.{refusal_of_edges}
use Rattle.open_graph.proofs.open.edges_refusal.Goals as goal

pub returns-then-not-edges_ok : goal.returns-then-not-edges_ok
unfolding refusal_of_edges
returns-then-not-edges_ok c = rw (sym c.edges_ok.ensures ∙ c.if-not-edges_ok.true)

pub returns : goal.returns
unfolding refusal_of_edges
returns c = rw (sym c.edges_ok.ensures ∙ c.if-not-edges_ok.false)

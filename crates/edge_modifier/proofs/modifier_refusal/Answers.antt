use mathlib.Core.Path.{sym, ◌∙◌}
use Rattle.graph.specs.Layout.{state_of}
use Rattle.calls.specs.Erasures.{pairs_from}
use Rattle.edge_modifier.specs.laws.Load.{refusal-links}
use Rattle.edge_modifier.proofs.modifier_refusal.Goals as goal

pub returns : goal.returns
returns c =
    let a = c.args in
    rw (refusal-links (state_of a.b.now) (pairs_from a.pairs.now), sym c.edges_named.ensures ∙ c.if-not-edges_named.false)
    c.weights_refusal.ensures

pub returns-then-not-edges_named : goal.returns-then-not-edges_named
returns-then-not-edges_named c =
    let a = c.args in
    rw (refusal-links (state_of a.b.now) (pairs_from a.pairs.now), sym c.edges_named.ensures ∙ c.if-not-edges_named.true)

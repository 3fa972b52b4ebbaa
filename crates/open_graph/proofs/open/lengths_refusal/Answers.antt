use mathlib.Core.Path.{sym, ◌∙◌}
use native.Mathlib.Omega.{arith}
use Rattle.open_graph.specs.inner.Refusals.{refusal_of_lengths}
use Rattle.graph.specs.laws.Size.{sizes-in}
use borrow.Author.Rules.{rules}
use Rattle.open_graph.proofs.open.lengths_refusal.Goals as goal

pub returns-then-not-lengths_fit : goal.returns-then-not-lengths_fit
unfolding refusal_of_lengths
returns-then-not-lengths_fit c = rw (sym c.lengths_fit.ensures ∙ c.if-not-lengths_fit.true)

pub virtuals_refusal-requires : goal.virtuals_refusal-requires
virtuals_refusal-requires c = let s = sizes-in _ _ _ _ c.requires.0 in (omega arith, search rules)

pub returns : goal.returns
unfolding refusal_of_lengths
returns c = rw (sym c.lengths_fit.ensures ∙ c.if-not-lengths_fit.false) c.virtuals_refusal.ensures

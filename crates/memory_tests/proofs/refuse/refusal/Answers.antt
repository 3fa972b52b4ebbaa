use mathlib.Core.Path.{sym, ◌∙◌}
use Rattle.graph.specs.Layout.{memory_refusal}
use Rattle.memory_tests.specs.laws.Memory.{fits-sized}
use borrow.Author.Rules.{rules}
use Rattle.memory_tests.proofs.refuse.refusal.Goals as goal

pub block_refusal-requires : goal.block_refusal-requires
block_refusal-requires c = λ e. fits-sized _ _ (sym c.measured-fits.ensures ∙ e)

pub returns : goal.returns
unfolding memory_refusal
returns c = rw (← c.measured-fits.ensures) c.block_refusal.ensures

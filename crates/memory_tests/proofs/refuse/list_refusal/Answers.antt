use mathlib.Core.Path.{sym, ◌∙◌}
use Rattle.graph.specs.Layout.{list_refusal}
use Rattle.graph.specs.laws.State.{and_left}
use Rattle.memory_tests.specs.laws.Memory.{fits-sized}
use borrow.Author.Rules.{rules}
use Rattle.memory_tests.proofs.refuse.list_refusal.Goals as goal

pub block_refusal-requires : goal.block_refusal-requires
block_refusal-requires c = λ e. fits-sized _ _ (and_left _ _ (sym c.measured_list-fits.ensures ∙ e))

pub returns : goal.returns
unfolding list_refusal
returns c = rw (← c.measured_list-fits.ensures) c.block_refusal.ensures

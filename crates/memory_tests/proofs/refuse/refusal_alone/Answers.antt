use mathlib.Core.Path.{sym, ◌∙◌}
use borrow.Author.Rules.{rules}
use Rattle.memory_tests.proofs.refuse.refusal_alone.Goals as goal

pub block_refusal-requires : goal.block_refusal-requires
block_refusal-requires c = λ e. sym c.sized-fits.ensures ∙ e

pub returns : goal.returns
returns c = rw (← c.sized-fits.ensures) c.block_refusal.ensures

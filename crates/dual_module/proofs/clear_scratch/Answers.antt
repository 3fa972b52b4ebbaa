use mathlib.Core.Path.{◌∙◌}
use Rattle.dual_module.proofs.laws.Called.{wipe-all}
use borrow.Author.Rules.{rules}
use Rattle.dual_module.proofs.clear_scratch.Goals as goal

pub returns : goal.returns
returns c = c.wipe.ensures ∙ wipe-all _

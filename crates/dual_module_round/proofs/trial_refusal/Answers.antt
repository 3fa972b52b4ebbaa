use Rattle.dual_module_round.specs.laws.Called.{trial-tested, trial-unlike}
use mathlib.Core.Path.{◌∙◌}
use Rattle.dual_module_round.proofs.trial_refusal.Goals as goal

pub returns-then-s-b : goal.returns-then-s-b
returns-then-s-b c = c.refusal.ensures ∙ trial-tested _ _ _ c.if-s-b.true

pub returns : goal.returns
returns c = trial-unlike _ _ _ c.if-s-b.false

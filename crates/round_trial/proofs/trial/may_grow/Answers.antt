use Rattle.round_trial.specs.laws.InTurn.{sound-is}
use Rattle.memory_tests.specs.laws.Whole.{formed-sized}
use mathlib.Core.Path.{refl, sym, ◌∙◌}
use Rattle.round_trial.proofs.trial.may_grow.Goals as goal

pub returns-then-none_in : goal.returns-then-none_in
returns-then-none_in c = rw (sym c.none_in.ensures ∙ c.if-none_in.true) refl

pub sound-requires : goal.sound-requires
sound-requires c = formed-sized _ c.requires.0

pub returns : goal.returns
returns c = rw (sym c.none_in.ensures ∙ c.if-none_in.false) (c.sound.ensures ∙ sound-is _ c.requires.0)

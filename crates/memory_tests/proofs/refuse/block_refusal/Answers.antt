use mathlib.Core.Path.{sym, ◌∙◌}
use Rattle.graph.specs.Layout.{block_refusal}
use Rattle.memory_tests.proofs.refuse.block_refusal.Goals as goal

pub returns-then-not-fits : goal.returns-then-not-fits
unfolding block_refusal
returns-then-not-fits c = rw c.if-not-fits.true

pub sound-requires : goal.sound-requires
sound-requires c = c.requires c.if-not-fits.false

pub returns-then-not-sound : goal.returns-then-not-sound
unfolding block_refusal
returns-then-not-sound c = rw (c.if-not-fits.false, sym c.sound.ensures ∙ c.if-not-sound.true)

pub returns : goal.returns
unfolding block_refusal
returns c = rw (c.if-not-fits.false, sym c.sound.ensures ∙ c.if-not-sound.false)

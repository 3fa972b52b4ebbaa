use Rattle.memory_tests.specs.laws.Block.{sound-parts}
use mathlib.Core.Path.{sym, ◌∙◌}
use borrow.Author.Rules.{rules}
use Rattle.memory_tests.proofs.sound.state_sound.Goals as goal

pub returns-then-nodes_sound : goal.returns-then-nodes_sound
returns-then-nodes_sound c = rw (
  sound-parts c.args.b.now c.requires.0 c.requires.1,
  c.requires.2,
  c.requires.3,
  sym c.sides_sound.ensures ∙ c.if-sides_sound.true,
  sym c.nodes_sound.ensures ∙ c.if-nodes_sound.true,
  ← c.active_sound.ensures,
  ← c.reweighted.ensures.0,
)

pub returns-else-nodes_sound : goal.returns-else-nodes_sound
returns-else-nodes_sound c = rw (
  sound-parts c.args.b.now c.requires.0 c.requires.1,
  c.requires.2,
  c.requires.3,
  sym c.sides_sound.ensures ∙ c.if-sides_sound.true,
  sym c.nodes_sound.ensures ∙ c.if-nodes_sound.false,
)

pub returns-else-sides_sound : goal.returns-else-sides_sound
returns-else-sides_sound c = rw (
  sound-parts c.args.b.now c.requires.0 c.requires.1,
  c.requires.2,
  c.requires.3,
  sym c.sides_sound.ensures ∙ c.if-sides_sound.false,
)

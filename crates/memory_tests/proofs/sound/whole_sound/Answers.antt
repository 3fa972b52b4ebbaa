use Rattle.memory_tests.specs.laws.Block.{sound-formed}
use Rattle.graph.specs.Sound.{state_sound}
use mathlib.Core.Path.{sym, ◌∙◌}
use borrow.Author.Rules.{rules}
use Rattle.memory_tests.proofs.sound.whole_sound.Goals as goal

pub removed_sound-requires : goal.removed_sound-requires
removed_sound-requires c =
    let e = sym c.state_sound.ensures ∙ c.if-state_sound.true in
    (sound-formed c.args.b.now c.requires.0 e c.requires.1 c.requires.2, e)

pub returns-then-state_sound : goal.returns-then-state_sound
unfolding state_sound
returns-then-state_sound c = rw (← c.state_sound.ensures, c.if-state_sound.true, ← c.removed_sound.ensures)

pub returns-else-state_sound : goal.returns-else-state_sound
unfolding state_sound
returns-else-state_sound c = rw (← c.state_sound.ensures, c.if-state_sound.false)

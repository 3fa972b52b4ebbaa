use Rattle.memory_tests.specs.laws.Block.{listed_of}
use mathlib.Core.Path.{sym, ◌∙◌}
use borrow.Author.Rules.{rules}
use Rattle.memory_tests.proofs.sound.laid_sound.Goals as goal

pub listed_sound-requires : goal.listed_sound-requires
listed_sound-requires c = (c.requires, listed_of c.args.b.now c.requires (sym c.packed.ensures ∙ c.if-packed.true))

pub returns-then-packed : goal.returns-then-packed
returns-then-packed c = rw (sym c.packed.ensures ∙ c.if-packed.true) c.listed_sound.ensures

pub returns-else-packed : goal.returns-else-packed
returns-else-packed c = rw (sym c.packed.ensures ∙ c.if-packed.false)

use borrow.Author.Rules.{rules}
use Rattle.dual_module.proofs.sound.clear_unless.Goals as goal

pub returns-then-zero : goal.returns-then-zero
returns-then-zero c = c.requires c.if-zero.true

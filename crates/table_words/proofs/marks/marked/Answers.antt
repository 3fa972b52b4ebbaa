use Rattle.table_words.specs.laws.Loops.{marked-outside}
use borrow.Author.Rules.{rules}
use Rattle.table_words.proofs.marks.marked.Goals as goal

pub returns-else-u-m : goal.returns-else-u-m
returns-else-u-m c = marked-outside c.args.m.now c.args.u c.if-u-m.false

use lib.Seq.{set_out}
use mathlib.Core.Path.{sym}
use native.Mathlib.Omega.{arith}
use borrow.Author.Rules.{rules}
use Rattle.table_words.proofs.marks.mark.Goals as goal

pub returns-else-u-m : goal.returns-else-u-m
returns-else-u-m c = sym (set_out c.args.m.now c.args.u 1 (omega arith))

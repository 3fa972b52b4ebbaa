use native.Mathlib.Omega.{arith}
use lib.Seq.{set_out}
use mathlib.Core.Path.{sym}
use Rattle.small_patches.proofs.reach.put_mark.Goals as goal

pub returns-else-b-m : goal.returns-else-b-m
returns-else-b-m c = sym (set_out c.args.m.now c.args.b 1 (omega arith))

use native.Mathlib.Omega.{arith}
use lib.ListN.{get_or-eq_default}
use mathlib.Core.Path.{sym}
use Rattle.small_patches.proofs.reach.mark.Goals as goal

pub returns-else-a-m : goal.returns-else-a-m
returns-else-a-m c = sym (get_or-eq_default c.args.m.now 0 (omega arith))

use native.Mathlib.Omega.{arith}
use mathlib.Core.Path.{sym}
use Rattle.small_patches.proofs.laws.Digits.{patch-by-digits, patch-past}
use Rattle.small_patches.proofs.laws.Words.{put-none, put_then, put_as}
use Rattle.small_patches.proofs.patch.patch.Goals as goal

pub returns-then-k-gt728 : goal.returns-then-k-gt728
returns-then-k-gt728 c =
    let a = c.args in
    (put_as (put-none a.edges.now 0) (sym (patch-past a.k c.if-k-gt728.true)), omega arith)

pub returns : goal.returns
returns c =
    let a = c.args in
    let both = put_then c.put_pairs_of_zero-n.ensures.0 c.put_other_pairs.ensures.0 in
    (put_as both (patch-by-digits a.k (omega arith)), omega arith)

use mathlib.Core.Path.{sym}
use Rattle.small_patches.specs.SmallPatch.{pair}
use Rattle.small_patches.proofs.laws.Digits.{absent-pair, present-pair}
use Rattle.small_patches.proofs.laws.Words.{put-none, put_as}
use native.Mathlib.Omega.{arith}
use Rattle.small_patches.proofs.patch.put_pair.Goals as goal

pub returns-then-digit-eq0 : goal.returns-then-digit-eq0
returns-then-digit-eq0 c =
    let a = c.args in
    (put_as (put-none a.edges.now a.n) (sym (absent-pair a.digit (pair a.left a.right) c.if-digit-eq0.true)), omega arith)

pub returns : goal.returns
returns c =
    let a = c.args in
    let w = c.weight_of.ensures.0 in
    let e = present-pair a.digit (pair a.left a.right) c.if-digit-eq0.false in
    (put_as c.put_edge.ensures (rw w (sym e)), omega (arith, c.put_edge.ensures.count))

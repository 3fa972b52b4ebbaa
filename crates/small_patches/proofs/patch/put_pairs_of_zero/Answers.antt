use Rattle.small_patches.proofs.laws.Words.{put_then}
use Rattle.small_patches.specs.Words.{edges_of_zero}
use native.Mathlib.Omega.{arith}
use Rattle.small_patches.proofs.patch.put_pairs_of_zero.Goals as goal

pub returns : goal.returns
unfolding edges_of_zero
returns c =
    let p = c.put_pair-a.ensures in
    let q = c.put_pair-b.ensures in
    let r = c.put_pair.ensures in
    (put_then (put_then p.0 q.0) r.0, omega arith)

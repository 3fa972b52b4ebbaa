use native.Mathlib.Omega.{arith}
use Rattle.small_patches.proofs.laws.Words.{put_then}
use Rattle.small_patches.specs.Words.{other_edges}
use Rattle.small_patches.proofs.patch.put_other_pairs.Goals as goal

pub returns : goal.returns
unfolding other_edges
returns c =
    let p = c.put_pair-a.ensures in
    let q = c.put_pair-b.ensures in
    let r = c.put_pair.ensures in
    (put_then (put_then p.0 q.0) r.0, omega arith)

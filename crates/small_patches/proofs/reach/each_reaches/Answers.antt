use Rattle.small_patches.proofs.laws.Words.{put-length, edges-read}
use Rattle.small_patches.specs.Reach.{all_reach}
use mathlib.Core.Path.{◌≡◌, ◌∙◌, ap}
use Prim.Native.Nat.{◌*◌, ◌-◌}
use native.Mathlib.Omega.{arith}
use Rattle.small_patches.proofs.reach.each_reaches.Goals as goal

pub slice_bounds-all_reach-end : goal.slice_bounds-all_reach-end
slice_bounds-all_reach-end c = omega (arith, c.patch-n.ensures.1, put-length c.patch-n.ensures.0)

pub returns : goal.returns
returns c =
    let p = c.patch-n.ensures in
    let n = c.patch-n.result in
    let z : 3 * n - 0 ≡ 3 * n = omega arith in
    c.all_reach.ensures ∙ ap all_reach (rw z (edges-read p.0 (omega (arith, p.0.count, p.1))))

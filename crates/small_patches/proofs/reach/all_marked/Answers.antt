use Rattle.small_patches.specs.Reach.{has_mark}
use Rattle.graph.specs.laws.Scan.{all_more, all-fails}
use Rattle.graph.specs.Basic.{all_below}
use borrow.Author.Tests.{lt-ltb, le-ltb}
use native.Mathlib.Omega.{arith}
use mathlib.Core.Path.{◌≡◌, refl, sym}
use Prim.Native.Nat.{◌<◌, ◌≤◌}
use borrow.Author.Rules.{rules}
use Rattle.small_patches.proofs.reach.all_marked.Goals as goal

pub loop-a-init : goal.loop-a-init
unfolding all_below
loop-a-init c = refl

pub loop-a-preserved : goal.loop-a-preserved
loop-a-preserved c =
    let has = lt-ltb 0 _ (rw c.mark.ensures at (let p : 0 < c.mark.result = omega arith in p)) in
    all_more (has_mark c.args.m.now) c.loop-a.a c.loop-a.invariant has

pub returns-then-mark-eq0 : goal.returns-then-mark-eq0
returns-then-mark-eq0 c =
    let none = le-ltb 0 _ (rw c.mark.ensures at (let p : c.mark.result ≤ 0 = omega arith in p)) in
    sym (all-fails (has_mark c.args.m.now) 4 c.loop-a.a (search rules) none)

pub returns : goal.returns
returns c = let e : c.loop-a.a ≡ 4 = search rules in sym (rw e at c.loop-a.invariant)

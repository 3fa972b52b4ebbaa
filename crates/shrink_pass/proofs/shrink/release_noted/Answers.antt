use native.Mathlib.Omega.{arith}
use Prim.Native.Nat.{◌*◌}
use mathlib.Core.Path.{◌∙◌}
use lib.ListN.{take}
use Rattle.graph.specs.Word.{numbers_at}
use Rattle.shrink_pass.specs.laws.Shrinking.{does-start, does-more, does-all}
use Rattle.shrink_pass.specs.laws.Shrink.{noted-size, noted-word, does-release-noted}
use Rattle.shrink_pass.proofs.shrink.release_noted.Goals as goal

pub loop-i-init : goal.loop-i-init
loop-i-init c = (does-start _ (numbers_at c.args.t.now (2 * c.args.m) c.args.p.noted) c.requires.0)

pub release_vertex-q-requires : goal.release_vertex-q-requires
release_vertex-q-requires c =
    let q = c.loop-i.invariant in
    let r =
    noted-word c.args.n
    c.loop-i.i
    (take c.loop-i.i
    (numbers_at c.args.t.now
    (2 * c.args.m)
    c.args.p.noted))
    (omega arith) c.requires.0 q in
    (q.working, omega arith, rw c.word-v.ensures.0 r.1)

pub loop-i-preserved : goal.loop-i-preserved
loop-i-preserved c =
    let q = c.loop-i.invariant in
    let s = noted-size c.requires.0 in
    let r =
    noted-word c.args.n
    c.loop-i.i
    (take c.loop-i.i
    (numbers_at c.args.t.now
    (2 * c.args.m)
    c.args.p.noted))
    (omega arith) c.requires.0 q in (
    does-more _
    (numbers_at c.args.t.now
    (2 * c.args.m)
    c.args.p.noted)
    _ _
    (rw s (omega arith)) (c.word-v.ensures.0 ∙ r.0) q
    c.release_vertex-q.ensures
    )

pub returns : goal.returns
returns c =
    does-release-noted _
    (does-all _
    (numbers_at c.args.t.now (2 * c.args.m) c.args.p.noted)
    c.loop-i.i (rw (noted-size c.requires.0) (omega arith)) c.loop-i.invariant)

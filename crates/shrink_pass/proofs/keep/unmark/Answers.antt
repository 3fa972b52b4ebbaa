use native.Mathlib.Omega.{arith}
use Prim.Native.Nat.{◌<◌}
use mathlib.Core.Path.{refl}
use Rattle.shrink_pass.specs.laws.Finish.{unmark-none, unmark-word, unmark-more}
use Rattle.shrink_pass.proofs.keep.unmark.Goals as goal

pub loop-i-init : goal.loop-i-init
loop-i-init c = (unmark-none _ _, refl)

pub put-requires : goal.put-requires
put-requires c =
    let z : c.word-s.result < c.args.m =
    rw (
      c.word-s.ensures.0,
      c.loop-i.invariant.0,
      unmark-word c.args.t.now
          c.args.m c.loop-i.i
          c.loop-i.i (omega arith),
    )
    (c.requires.3 c.loop-i.i (omega arith)) in
    (omega arith, omega arith)

pub loop-i-preserved : goal.loop-i-preserved
loop-i-preserved c = (
  rw (
    c.put.ensures,
    c.word-s.ensures.0,
    c.loop-i.invariant.0,
  )
      (unmark-more c.args.t.now
      c.args.m
      c.loop-i.i (omega arith)),
  omega arith,
)

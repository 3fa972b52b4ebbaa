use borrow.Author.Rules.{rules}
use native.Mathlib.Omega.{arith}
use Rattle.record_call.specs.laws.Asking.{circle-length, circle-more, circle-all}
use Rattle.record_call.proofs.one_call.circle_into.Goals as goal

pub overflow_sub-k : goal.overflow_sub-k
overflow_sub-k c = omega (arith, circle-length c.requires.0)

pub overflow_sub-k-2 : goal.overflow_sub-k-2
overflow_sub-k-2 c = omega (arith, circle-length c.requires.0)

pub loop-i-preserved : goal.loop-i-preserved
loop-i-preserved c =
    rw c.put.ensures
    (circle-more _ _ _ _ _ (search rules) (omega (arith, circle-length c.requires.0)) c.field.ensures.0 c.loop-i.invariant)

pub returns : goal.returns
returns c = (
  circle-all c.loop-i.c c.args.body.now c.loop-i.i _ (omega arith) (omega arith) c.loop-i.invariant,
  omega (arith, circle-length c.requires.0),
)

use borrow.Author.Rules.{rules}
use Prim.Native.Nat.{◌<◌}
use mathlib.Core.Path.{refl}
use native.Mathlib.Omega.{arith}
use Rattle.c_api_calls.specs.Told.{call_count}
use Rattle.c_api_calls.specs.laws.Run.{calls-length, calls_at, count-below, running_none, running_more, running-all}
use Rattle.c_api_calls.proofs.make_all.Goals as goal

pub loop-init : goal.loop-init
unfolding call_count
loop-init c =
    let s = c.args in
    (running_none s.b.now s.t.now _ s.answers.now, c.min-m.ensures, refl)

pub step_at-s-requires : goal.step_at-s-requires
step_at-s-requires c =
    let l = c.loop in
    let s = c.args in
    let q = l.invariant.0 in
    let i : l.s.made < c.min-m.result = omega arith in
    let h = count-below s.words.now s.answers.now l.invariant.1 i in
    (q.between, q.few, search rules, h.0, rw l.auto.answers h.1)

pub loop-preserved : goal.loop-preserved
loop-preserved c =
    let s = c.args in
    let l = c.loop in
    let m = c.min-m.result in
    let h : l.s.made < m = omega arith in
    let r = c.step_at-s in
    let n = calls-length s.circles.now s.words.now m in
    let i = calls_at s.circles.now s.words.now m l.s.made h in (
      rw r.ensures.1
          (running_more _ _ _ _ l.invariant.0 (rw n h) (count-below s.words.now s.answers.now l.invariant.1 h).1
          (rw r.ensures.1 at r.ensures.2) (rw i r.ensures.0)),
      l.invariant.1,
      omega (arith, r.ensures.1),
    )

pub returns : goal.returns
returns c =
    let s = c.args in
    let l = c.loop in
    let n = calls-length s.circles.now s.words.now c.min-m.result in
    rw (← l.invariant.1) (running-all _ _ _ _ l.invariant.0 (omega (arith, n)))

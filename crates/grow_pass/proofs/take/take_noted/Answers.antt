use native.Mathlib.Omega.{arith}
use Prim.Native.Nat.{◌*◌}
use Rattle.graph.specs.Word.{numbers_at}
use Rattle.pass.specs.inner.Once.{take_once}
use Rattle.grow_pass.specs.laws.Growing.{loop-none, loop-more, loop-all, noted-length}
use Rattle.grow_pass.specs.laws.Take.{noting-none, noting-side, noting-more, noted-below, keeping-take-once}
use Rattle.grow_pass.proofs.take.take_noted.Goals as goal

pub loop-i-init : goal.loop-i-init
loop-i-init c = (
  loop-none (take_once c.args.n) (numbers_at c.args.t.now (2 * c.args.m) c.args.p.noted) c.requires.0,
  noting-none c.requires.1 c.requires.3,
)

pub take_step-q-requires : goal.take_step-q-requires
take_step-q-requires c = let q = c.loop-i.invariant in
    let w = c.word-s in
    let e = noting-side q.0.worked.working q.1 w.result w.ensures.0 (omega arith) in
    let l = noted-length c.requires.0 in (
      q.0.worked.working,
      q.1.own,
      noted-below (numbers_at c.args.t.now (2 * c.args.m) c.args.p.noted) c.args.m c.loop-i.i w.result
          c.requires.2 (omega arith) e,
      omega arith,
    )

pub loop-i-preserved : goal.loop-i-preserved
loop-i-preserved c = let q = c.loop-i.invariant in
    let h = c.loop-i-test.true in
    let w = c.word-s in
    let e = noting-side q.0.worked.working q.1 w.result w.ensures.0 h in
    let l = noted-length c.requires.0 in
    let x = c.take_step-q.ensures in
    (loop-more q.0 w.result (keeping-take-once c.args.n) (omega (arith, h, l)) e x, noting-more q.0.worked.working q.1 w.result x)

pub returns : goal.returns
returns c = let l = noted-length c.requires.0 in loop-all c.loop-i.invariant.0 (omega arith)

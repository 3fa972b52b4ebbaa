use native.Mathlib.Omega.{arith}
use mathlib.Core.Path.{refl}
use lib.Dec.{ltb}
use lib.ListN.{length-set}
use Rattle.graph.specs.State.{node_count}
use Rattle.graph.specs.Layout.{state_of}
use Rattle.graph.specs.Form.{Laid}
use Rattle.graph.specs.laws.Stamp.{stamped-all}
use Rattle.node_tests.specs.laws.Active.{none-met, met-more, met-again, met-outside}
use borrow.Author.Rules.{rules}
use Rattle.node_tests.proofs.active.active_once.Goals as goal

pub loop-i-init : goal.loop-i-init
loop-i-init c = (none-met 1024 (λ n. ltb n (node_count (state_of c.args.b.now))) (state_of c.args.b.now).active, refl)

pub bounds-marks-n : goal.bounds-marks-n
unfolding Laid
bounds-marks-n c = search rules

pub bounds-marks-n-then-marks-n-ne1 : goal.bounds-marks-n-then-marks-n-ne1
unfolding Laid
bounds-marks-n-then-marks-n-ne1 c = search rules

pub loop-i-preserved : goal.loop-i-preserved
unfolding Laid
loop-i-preserved c = let x = state_of c.args.b.now in
    let y = c.active_node-n in
    let h = c.loop-i-test.true in (
      met-more (node_count x) x.active c.loop-i.i c.loop-i.marks c.loop-i.invariant.0 y.result (omega arith)
          y.ensures.0 (omega arith) (omega arith) (omega arith),
      simp (length-set) c.loop-i.invariant.1,
    )

pub returns-else-marks-n-ne1 : goal.returns-else-marks-n-ne1
unfolding Laid
returns-else-marks-n-ne1 c = let x = state_of c.args.b.now in
    let y = c.active_node-n in
    let h = c.loop-i-test.true in
    met-again (node_count x) x.active c.loop-i.i c.loop-i.marks c.loop-i.invariant.0 y.result (omega arith)
    y.ensures.0 (omega arith) (omega arith) c.if-marks-n-ne1.false

pub returns-then-m-n : goal.returns-then-m-n
unfolding Laid
returns-then-m-n c = let x = state_of c.args.b.now in
    let y = c.active_node-n in
    let h = c.loop-i-test.true in
    met-outside (node_count x) x.active c.loop-i.i c.loop-i.marks c.loop-i.invariant.0 y.result (omega arith) y.ensures.0 (omega arith) (omega arith)

pub returns : goal.returns
returns c =
    stamped-all 1 (λ n. ltb n (node_count (state_of c.args.b.now)))
    (state_of c.args.b.now).active c.loop-i.i c.loop-i.marks
    c.loop-i.invariant.0 (omega arith)

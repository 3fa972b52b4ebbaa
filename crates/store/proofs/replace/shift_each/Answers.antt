use native.Mathlib.Omega.{arith}
use Prim.Native.Nat.{◌+◌, ◌-◌}
use mathlib.Core.Path.{◌∙◌}
use lib.ListN.{set}
use Rattle.graph.specs.Rows.{start_row}
use Rattle.graph.specs.Layout.{rows_of, row}
use Rattle.graph.specs.inner.Form.{Rowed}
use Rattle.graph.specs.laws.Row.{rowed-put, rows_get}
use Rattle.store.specs.laws.From.{node-from, node-max}
use Rattle.store.specs.laws.Move.{wrote_none, shift-more}
use Rattle.store.proofs.replace.shift_each.Goals as goal

pub loop-i-init : goal.loop-i-init
loop-i-init c = (
  wrote_none 15 c.args.b.now c.args.lo c.args.lo _ c.requires.0 (λ p x y. absurd (omega arith)),
  node-max c.args.b.now c.requires.0,
)

pub word-x-requires : goal.word-x-requires
word-x-requires c =
    let a = c.loop-i in
    (node-from c.requires.0 a.invariant.0.still 4 a.i _ (omega arith) (omega arith) c.node_place-a.ensures).within

pub overflow_sub-x : goal.overflow_sub-x
overflow_sub-x c =
    let a = c.loop-i in
    let f = node-from c.requires.0 a.invariant.0.still 4 a.i _ (omega arith) (omega arith) c.node_place-a.ensures in
    let n = a.invariant.0.above a.i (omega arith) in
    let g = c.requires.4 a.i (omega arith) (omega arith) in
    let e = c.word-x.ensures.0 ∙ rows_get a.b start_row a.i _ f.stands in
    omega (arith, e, n, g.0)

pub put-requires : goal.put-requires
put-requires c =
    let a = c.loop-i in
    let f = node-from c.requires.0 a.invariant.0.still 4 a.i _ (omega arith) (omega arith) c.node_place-a.ensures in
    let n = a.invariant.0.above a.i (omega arith) in
    let g = c.requires.4 a.i (omega arith) (omega arith) in
    let e = c.word-x.ensures.0 ∙ rows_get a.b start_row a.i _ f.stands in
    (f.within, omega (arith, e, n, g.1))

pub loop-i-preserved : goal.loop-i-preserved
loop-i-preserved c =
    let a = c.loop-i in
    let f = node-from c.requires.0 a.invariant.0.still 4 a.i _ (omega arith) (omega arith)
    c.node_place-a.ensures in
    let n = a.invariant.0.above a.i (omega arith) in
    let g = c.requires.4 a.i (omega arith) (omega arith) in
    let e = c.word-x.ensures.0 ∙ rows_get a.b start_row a.i _ f.stands in
    let r : Rowed start_row a.b c.put.new.b (set (row (rows_of a.b) start_row) a.i
    (c.word-x.result + c.args.add - c.args.sub)) =
    rw c.put.ensures (rowed-put a.b start_row a.i _ _ a.invariant.0.still.laid f) in (
      shift-more c.requires.0 c.args.add c.args.sub c.args.lo a.i _ a.invariant.0 (omega arith) (omega arith) (omega (arith, e)) r,
      a.invariant.1,
    )

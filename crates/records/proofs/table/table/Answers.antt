use native.Mathlib.Omega.{arith}
use Prim.Native.Nat.{◌+◌, ◌*◌, ◌<◌}
use lib.ListN.{length}
use Rattle.graph.specs.Layout.{state_of}
use Rattle.calls.specs.Calls.{growth_table}
use Rattle.records.specs.laws.Table.{telling-none, telling-more, telling-all, growths-even, table-start, table_more, table-end}
use Rattle.records.proofs.table.table.Goals as goal

pub edge_count-e-end-requires : goal.edge_count-e-end-requires
edge_count-e-end-requires c = c.requires.1.laid

pub loop-e-init : goal.loop-e-init
loop-e-init c = telling-none c.requires.0 (table-start _ _)

pub edge_line-out-requires : goal.edge_line-out-requires
edge_line-out-requires c = (c.loop-e.invariant.room, c.requires.1, omega (arith, c.edge_count-e-end.ensures.0))

pub loop-e-preserved : goal.loop-e-preserved
loop-e-preserved c =
    let m = growths-even c.args.b.now c.requires.1 in
    let h : 2 * c.loop-e.e + 1 < length (growth_table (state_of c.args.b.now)) = omega (arith, c.edge_count-e-end.ensures.0) in
    telling-more c.loop-e.invariant (table_more c.args.k (state_of c.args.b.now) c.loop-e.e h) c.edge_line-out.ensures

pub returns : goal.returns
returns c =
    let m = growths-even c.args.b.now c.requires.1 in
    telling-all c.loop-e.invariant
    (table-end c.args.k (state_of c.args.b.now) c.loop-e.e (omega (arith, c.edge_count-e-end.ensures.0)))

use Rattle.block_rows.specs.laws.Rows.{store-part, store-fits}
use Rattle.graph.specs.laws.List.{store-fits as fits}
use Prim.Native.Nat.{◌-◌}
use mathlib.Core.Path.{◌≡◌}
use lib.ListN.{length}
use native.Mathlib.Omega.{arith}
use Rattle.block_rows.proofs.parts.store_row.Goals as goal

pub overflow_sub-e : goal.overflow_sub-e
overflow_sub-e c = let f = fits c.args.b.now c.requires in omega (arith, f)

pub overflow_sub-e-2 : goal.overflow_sub-e-2
overflow_sub-e-2 c = let f = fits c.args.b.now c.requires in omega (arith, f)

pub overflow_sub-a : goal.overflow_sub-a
overflow_sub-a c = let f = fits c.args.b.now c.requires in omega (arith, f)

pub returns : goal.returns
returns c =
    let b = c.args.b.now in
    let m = c.edge_count.result in
    let g = c.node_limit.result in
    let l = c.store_limit.result in
    let em = c.edge_count.ensures.0 in
    let eg = c.node_limit.ensures.0 in
    let el = c.store_limit.ensures.0 in
    let f = store-fits b c.requires m g l em eg el in
    let z : length b - m - g - (length b - m - g - l) ≡ l = omega (arith, f) in
    rw z (store-part b c.requires m g l em eg el)

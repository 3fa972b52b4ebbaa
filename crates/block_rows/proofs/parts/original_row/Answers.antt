use Rattle.block_rows.specs.laws.Rows.{original-part, original-fits}
use Prim.Native.Nat.{◌-◌}
use lib.ListN.{length}
use mathlib.Core.Path.{◌≡◌}
use native.Mathlib.Omega.{arith}
use borrow.Author.Rules.{rules}
use Rattle.block_rows.proofs.parts.original_row.Goals as goal

pub overflow_sub-a : goal.overflow_sub-a
overflow_sub-a c =
    let f = original-fits c.args.b.now c.requires c.edge_count-n.result c.edge_count-n.ensures.0 in
    search rules

pub returns : goal.returns
returns c =
    let b = c.args.b.now in
    let n = c.edge_count-n.result in
    let q = c.requires in
    let e = c.edge_count-n.ensures.0 in
    let z : length b - (length b - n) ≡ n = omega (arith, original-fits b q n e) in
    rw z (original-part b q n e)

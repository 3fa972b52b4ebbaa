use Rattle.graph.specs.laws.List.{lists_of, boundary-entry, store-max}
use native.Mathlib.Omega.{arith}
use Rattle.node_tests.proofs.node_lists.side_place.Goals as goal

pub overflow_add-result : goal.overflow_add-result
overflow_add-result c =
    let q = lists_of c.args.b.now c.args.n c.requires.0 c.requires.1 c.requires.2 in
    let m = store-max c.args.b.now c.requires.0 in
    omega arith

pub returns : goal.returns
returns c = let q = lists_of c.args.b.now c.args.n c.requires.0 c.requires.1 c.requires.2 in
    (rw c.requires.4 (boundary-entry c.args.b.now c.args.n c.args.i q (omega arith)), omega arith)

use native.Mathlib.Omega.{arith}
use Rattle.graph.specs.laws.List.{lists_of, store-fits, boundary-part}
use borrow.Author.Rules.{rules}
use Rattle.graph.proofs.lists.boundary.Goals as goal

pub overflow_sub-a : goal.overflow_sub-a
overflow_sub-a c = let f = store-fits c.args.b.now c.requires.0 in omega arith

pub overflow_sub-a-2 : goal.overflow_sub-a-2
overflow_sub-a-2 c = let f = store-fits c.args.b.now c.requires.0 in omega arith

pub overflow_sub-a-3 : goal.overflow_sub-a-3
overflow_sub-a-3 c = let f = store-fits c.args.b.now c.requires.0 in omega arith

pub slice_bounds-result-end : goal.slice_bounds-result-end
slice_bounds-result-end c =
    let q = lists_of c.args.b.now c.args.n c.requires.0 c.requires.1 c.requires.2 in
    let f = store-fits c.args.b.now c.requires.0 in
    search rules

pub returns : goal.returns
returns c =
    boundary-part c.args.b.now c.args.n _ _ _ _ _ c.requires.0
    (lists_of c.args.b.now c.args.n c.requires.0 c.requires.1 c.requires.2)
    c.edge_count.ensures.0
    c.node_limit.ensures.0 c.store_limit.ensures.0
    c.start.ensures.0 c.boundary_len.ensures.0

use native.Mathlib.Omega.{arith}
use mathlib.Core.Path.{◌∙◌}
use Rattle.graph.specs.laws.List.{lists_of, boundary-entry, store-max}
use borrow.Author.Rules.{rules}
use Rattle.graph.proofs.lists.boundary_word.Goals as goal

pub overflow_add-a : goal.overflow_add-a
overflow_add-a c =
    let q = lists_of c.args.b.now c.args.n c.requires.0 c.requires.1 c.requires.2 in
    let m = store-max c.args.b.now c.requires.0 in
    omega arith

pub store_word-requires : goal.store_word-requires
store_word-requires c = let q = lists_of c.args.b.now c.args.n c.requires.0 c.requires.1 c.requires.2 in (c.requires.0, omega arith)

pub returns : goal.returns
returns c =
    let q = lists_of c.args.b.now c.args.n c.requires.0 c.requires.1 c.requires.2 in (
      c.store_word.ensures.0
          ∙ rw c.start-a.ensures.0 (boundary-entry c.args.b.now c.args.n c.args.i q (omega arith)),
      search rules,
    )

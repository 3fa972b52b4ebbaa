use native.Mathlib.Omega.{arith}
use mathlib.Core.Path.{◌∙◌}
use Rattle.graph.specs.laws.SidesAt.{around-of, laid-sides, side-entry}
use borrow.Author.Rules.{rules}
use Rattle.graph.proofs.sides.stretch_side.Goals as goal

pub overflow_add-a : goal.overflow_add-a
overflow_add-a c =
    let q = around-of c.args.b.now c.args.v c.requires.0 c.requires.1 c.requires.2 in
    let n = laid-sides c.args.b.now c.requires.0 in
    omega arith

pub side_word-requires : goal.side_word-requires
side_word-requires c =
    let q = around-of c.args.b.now c.args.v c.requires.0 c.requires.1 c.requires.2 in
    (c.requires.0, omega arith, omega arith)

pub returns : goal.returns
returns c =
    let q = around-of c.args.b.now c.args.v c.requires.0 c.requires.1 c.requires.2 in (
      c.side_word.ensures.0
          ∙ rw c.first-a.ensures.0 (side-entry c.args.b.now c.args.v c.args.i q (omega arith)),
      search rules,
    )

use native.Mathlib.Omega.{arith}
use Prim.Native.Nat.{◌-◌, ◌*◌}
use mathlib.Core.Path.{◌∙◌, ap}
use mathlib.Core.List.{◌++◌}
use lib.ListN.{drop}
use Rattle.records.specs.laws.Opening.{small_of, complete-sizes, opens-code, opens-block}
use borrow.Author.Rules.{rules}
use Rattle.records.proofs.opening.open_into.Goals as goal

pub block_length-m-requires : goal.block_length-m-requires
block_length-m-requires c = complete-sizes c.args.s c.requires.5

pub scratch_length-q-requires : goal.scratch_length-q-requires
scratch_length-q-requires c = let z = small_of c.args.s c.requires.4 in omega arith

pub slice_bounds-open-end : goal.slice_bounds-open-end
slice_bounds-open-end c =
    let z = small_of c.args.s c.requires.4 in
    omega (arith, c.requires.0, c.block_length-m.ensures)

pub slice_bounds-open-end-2 : goal.slice_bounds-open-end-2
slice_bounds-open-end-2 c =
    let z = small_of c.args.s c.requires.4 in
    omega (arith, c.requires.1, c.scratch_length-q.ensures)

pub slice_bounds-open-end-3 : goal.slice_bounds-open-end-3
slice_bounds-open-end-3 c =
    let z = small_of c.args.s c.requires.4 in
    omega (arith, c.requires.2)

pub returns : goal.returns
returns c =
    let q = c.scratch_length-q in
    let z = small_of c.args.s c.requires.4 in
    let len = c.block_length-m.ensures in
    let e = c.«open».ensures in (
      e.0
          ∙ opens-code c.args.s c.args.edges.now c.args.virtuals.now c.args.block.now
          c.args.scratch.now (c.block_length-m.result - 0) (q.result - 0) (3 * c.args.s.e - 0)
          (c.args.s.virtuals - 0) (omega (arith, len)) (omega (arith, q.ensures)) (omega arith) (omega arith)
          (omega (arith, len, c.requires.0)) (omega (arith, c.requires.1, q.ensures)),
      ap (λ l. l ++ drop (c.block_length-m.result - 0) c.args.block.now) e.1
          ∙ opens-block c.args.s c.args.edges.now c.args.virtuals.now c.args.block.now
          c.args.scratch.now (c.block_length-m.result - 0) (q.result - 0) (3 * c.args.s.e - 0)
          (c.args.s.virtuals - 0) (omega (arith, len)) (omega (arith, q.ensures)) (omega arith) (omega arith)
          (omega (arith, len, c.requires.0)) (omega (arith, c.requires.1, q.ensures)),
    )

use native.Mathlib.Omega.{arith}
use Prim.Native.Nat.{◌+◌, ◌-◌}
use Rattle.std.specs.Prelude.{get_or}
use Rattle.std.proofs.Common.{ap}
use Rattle.graph.specs.Rows.{store_row}
use Rattle.graph.specs.inner.Lists.{store_of}
use Rattle.graph.specs.laws.List.{store-max, store_length}
use Rattle.store.specs.laws.Move.{moved_none}
use Rattle.store.specs.laws.Stretch.{stretch-fits, wrote-copied}
use Rattle.store.proofs.replace.move_words.Goals as goal

pub returns-then-from-to : goal.returns-then-from-to
returns-then-from-to c = moved_none c.args.b.now c.args.from c.args.to c.args.n c.requires.0 (omega arith)

pub overflow_add-p : goal.overflow_add-p
overflow_add-p c = omega (arith, store-max c.args.b.now c.requires.0)

pub copy_within-requires-clause-in_bounds : goal.copy_within-requires-clause-in_bounds
copy_within-requires-clause-in_bounds c =
    let l = store_length c.args.b.now c.requires.0 in
    stretch-fits c.args.b.now store_row c.args.from _ _ c.requires.0 c.store_place-p.ensures (omega arith)

pub copy_within-requires-clause-dest_in_bounds : goal.copy_within-requires-clause-dest_in_bounds
copy_within-requires-clause-dest_in_bounds c =
    let l = store_length c.args.b.now c.requires.0 in
    let t = stretch-fits c.args.b.now store_row c.args.to c.args.n _ c.requires.0 c.store_place-q.ensures (omega arith) in
    omega arith

pub returns : goal.returns
returns c =
    let l = store_length c.args.b.now c.requires.0 in
    wrote-copied c.args.b.now store_row c.args.to c.args.n _ c.requires.0 c.store_place-q.ensures (omega arith) _ store_row c.args.from _ _
    (λ p. get_or (store_of c.args.b.now) (c.args.from + (p - c.args.to)) 0) c.store_place-p.ensures (omega arith) (omega arith)
    c.copy_within.ensures.len c.copy_within.ensures.by_index
    (λ p x. ap (λ v. get_or (store_of c.args.b.now) (c.args.from + v) 0) (omega arith))

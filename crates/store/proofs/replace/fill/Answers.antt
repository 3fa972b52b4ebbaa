use native.Mathlib.Omega.{arith}
use Prim.Native.Nat.{◌+◌, ◌-◌}
use Rattle.std.proofs.Common.{ap}
use Rattle.std.proofs.lemmas.List.{places}
use Rattle.graph.specs.Word.{to_nat, word_at}
use Rattle.graph.specs.Rows.{store_row}
use Rattle.graph.specs.laws.List.{store_length}
use Rattle.store.specs.laws.Stretch.{stretch-fits, wrote-part}
use Rattle.store.proofs.replace.fill.Goals as goal

pub slice_bounds-copy_each-end : goal.slice_bounds-copy_each-end
slice_bounds-copy_each-end c =
    stretch-fits c.args.b.now store_row c.args.at _ _ c.requires.0 c.store_place-a.ensures
    (omega (arith, store_length c.args.b.now c.requires.0))

pub returns : goal.returns
unfolding word_at
returns c =
    rw c.copy_each.ensures
    (wrote-part c.args.b.now store_row c.args.at c.args.n _ c.requires.0 c.store_place-a.ensures
    (omega (arith, store_length c.args.b.now c.requires.0)) _ _ (λ p. word_at c.args.t.now (c.args.q + (p - c.args.at)))
    (omega arith) (grind (arith, places)) (λ p x. ap to_nat (grind (arith, places))))

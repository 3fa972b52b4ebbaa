use Rattle.graph.specs.laws.List.{store-max}
use native.Mathlib.Omega.{arith}
use Rattle.std.specs.Prelude.{◌≤◌}
use mathlib.Core.Path.{◌∙◌}
use Rattle.graph.specs.Layout.{state_of}
use Rattle.calls.proofs.laws.Refuse.{entries_with, short-node}
use Rattle.calls.proofs.refuse.store_short.Goals.{After-entries_of-own}
use Rattle.calls.proofs.refuse.store_short.Goals as goal

-- the entries of node n are some of all

some : (c : After-entries_of-own) → c.entries_of-own.result ≤ c.entry_count-used.result
some c =
    omega (
      arith,
      c.entries_of-own.ensures.0,
      c.entry_count-used.ensures.0,
      entries_with (state_of c.args.b.now) c.args.n c.requires.1,
    )

pub overflow_sub-used : goal.overflow_sub-used
overflow_sub-used c = some c

pub over_store-requires : goal.over_store-requires
over_store-requires c = (
  c.requires.0,
  omega (arith, store-max c.args.b.now c.requires.0.laid, c.entry_count-used.ensures.1),
  omega arith,
)

pub returns : goal.returns
returns c =
    let s = some c.before in
    c.over_store.ensures
    ∙ short-node (state_of c.args.b.now) c.args.n _ c.requires.1
    (omega (arith, c.entries_of-own.ensures.0, c.entry_count-used.ensures.0, s))

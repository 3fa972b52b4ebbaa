use Rattle.graph.specs.laws.List.{store-max}
use native.Mathlib.Omega.{arith}
use mathlib.Core.Path.{◌∙◌}
use Rattle.graph.specs.Layout.{state_of}
use Rattle.calls.proofs.laws.Refuse.{short-new}
use Rattle.calls.proofs.refuse.store_short_new.Goals as goal

pub over_store-requires : goal.over_store-requires
over_store-requires c = (c.requires, omega (arith, store-max c.args.b.now c.requires.laid, c.entry_count-used.ensures.1), omega arith)

pub returns : goal.returns
returns c = c.over_store.ensures ∙ short-new (state_of c.args.b.now) _ c.entry_count-used.ensures.0

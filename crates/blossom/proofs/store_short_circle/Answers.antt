use native.Mathlib.Omega.{arith}
use mathlib.Core.Path.{◌∙◌}
use mathlib.Core.List.{map}
use lib.ListN.{length-map}
use Rattle.graph.specs.Word.{to_nat}
use Rattle.graph.specs.Layout.{state_of}
use Rattle.graph.specs.laws.List.{store-max}
use Rattle.blossom.specs.laws.Circle.{circle-size, short-circle}
use Rattle.blossom.proofs.store_short_circle.Goals as goal

pub over_store-requires : goal.over_store-requires
over_store-requires c = (
  c.requires.0,
  omega (arith, store-max c.args.b.now c.requires.0.laid, c.entry_count-used.ensures.1),
  omega (
    arith,
    circle-size (state_of c.args.b.now) (map to_nat c.args.circle.now) c.requires.1 c.requires.0.nodes-max
        c.requires.2,
    length-map c.args.circle.now to_nat,
  ),
)

pub returns : goal.returns
returns c =
    c.over_store.ensures
    ∙ short-circle (state_of c.args.b.now) c.args.circle.now _
    (omega (arith, c.entries_in-own.ensures, c.entry_count-used.ensures.0))

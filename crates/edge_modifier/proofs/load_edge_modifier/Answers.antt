use native.Mathlib.Omega.{arith}
use mathlib.Core.Path.{refl}
use Rattle.graph.specs.Layout.{state_of}
use Rattle.calls.specs.Erasures.{pairs_from}
use Rattle.calls.proofs.laws.Erasures.{modifier-accepted}
use Rattle.edge_modifier.specs.laws.Load.{load-nothing, load-done}
use Rattle.edge_modifier.proofs.load_edge_modifier.Goals as goal

pub returns-then-pairs-lt2 : goal.returns-then-pairs-lt2
returns-then-pairs-lt2 c = (load-nothing c.args.pairs.now c.requires.0 c.requires.1 (omega arith), λ k. refl)

pub set_weights-requires : goal.set_weights-requires
set_weights-requires c =
    let a = modifier-accepted (state_of c.args.b.now) (pairs_from c.args.pairs.now) c.requires.1 in
    (c.requires.0, a.edges, a.weights)

pub returns : goal.returns
returns c = (
  load-done c.args.pairs.now c.requires.0 c.requires.1 (omega arith) c.set_weights.ensures
      c.set_reweighted.ensures,
  λ k. absurd (omega arith),
)

use mathlib.Core.Path.{refl}
use native.Mathlib.Omega.{arith}
use Rattle.graph.specs.Layout.{state_of}
use Rattle.calls.specs.Erasures.{names_edge}
use Rattle.edge_modifier.specs.laws.Load.{pairs-more, pairs-fails, pairs-all, names-edge, names-no-edge}
use Rattle.edge_modifier.proofs.edges_named.Goals as goal

pub loop-i-init : goal.loop-i-init
loop-i-init c = refl

pub loop-i-preserved : goal.loop-i-preserved
loop-i-preserved c =
    let a = c.args in (
    pairs-more a.pairs.now (names_edge (state_of a.b.now)) c.loop-i.i c.loop-i.invariant (omega arith)
    (names-edge a.pairs.now c.loop-i.i (state_of a.b.now) (omega arith))
    )

pub returns-then-m-given : goal.returns-then-m-given
returns-then-m-given c =
    let a = c.args in
    pairs-fails a.pairs.now (names_edge (state_of a.b.now)) c.loop-i.i c.loop-i.invariant (omega arith)
    (names-no-edge a.pairs.now c.loop-i.i (state_of a.b.now) (omega arith))

pub returns : goal.returns
returns c =
    let a = c.args in
    pairs-all a.pairs.now (names_edge (state_of a.b.now)) c.loop-i.i c.loop-i.invariant (omega arith)

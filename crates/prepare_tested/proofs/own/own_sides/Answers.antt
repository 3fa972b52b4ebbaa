use native.Mathlib.Omega.{arith}
use mathlib.Core.Path.{refl, sym, ◌∙◌}
use Rattle.graph.specs.Basic.{all}
use Rattle.graph.specs.State.{sides_at}
use Rattle.pass.specs.KeepsSound.{own_side}
use Rattle.graph.specs.Layout.{state_of}
use Rattle.graph.specs.laws.Scan.{list-more, list-fails, list_done}
use Rattle.prepare_tested.proofs.own.own_sides.Goals as goal

pub loop-i-init : goal.loop-i-init
unfolding all
loop-i-init c = refl

pub loop-i-preserved : goal.loop-i-preserved
loop-i-preserved c = let d = c.loop-i in
    let a = c.args in (
    list-more (own_side a.n (state_of a.b.now)) (sides_at (state_of a.b.now) a.v) d.i 0 (omega arith)
    d.invariant
    (rw c.vertex_side-s.ensures.0 at (sym c.own_side.ensures ∙ c.if-not-own_side.false))
    )

pub returns-then-not-own_side : goal.returns-then-not-own_side
returns-then-not-own_side c = let d = c.loop-i in
    let a = c.args in
    sym
    (list-fails (own_side a.n (state_of a.b.now)) (sides_at (state_of a.b.now) a.v) d.i 0 (omega arith)
    (rw c.vertex_side-s.ensures.0 at (sym c.own_side.ensures ∙ c.if-not-own_side.true)))

pub returns : goal.returns
returns c = let d = c.loop-i in
    let a = c.args in
    list_done (own_side a.n (state_of a.b.now)) (sides_at (state_of a.b.now) a.v) d.i (omega arith) d.invariant

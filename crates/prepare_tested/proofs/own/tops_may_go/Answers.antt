use native.Mathlib.Omega.{arith}
use mathlib.Core.Path.{refl, sym, ◌∙◌}
use Rattle.graph.specs.Basic.{all}
use Rattle.graph.specs.State.{vertex_count, overgrown_of}
use Rattle.pass.specs.Shrink.{empty_tops}
use Rattle.pass.specs.KeepsSound.{may_go}
use Rattle.shrink_pass.specs.laws.Top.{tops-le, top-at, stack-vertex}
use Rattle.graph.specs.Layout.{state_of, overgrown_from}
use Rattle.graph.specs.laws.Scan.{list-more, list-fails, list_done}
use Rattle.prepare_tested.proofs.own.tops_may_go.Goals as goal

pub loop-i-init : goal.loop-i-init
unfolding all
loop-i-init c = refl

pub overgrown_vertex-v-requires : goal.overgrown_vertex-v-requires
overgrown_vertex-v-requires c = let a = c.args in
    let f = c.requires.0 in
    (f.laid, f.listed, c.requires.1, omega (arith, tops-le (overgrown_of (state_of a.b.now) a.n)))

pub may_go-requires : goal.may_go-requires
may_go-requires c = let a = c.args in
    let p = c.requires in (
      p.0,
      p.1,
      rw c.overgrown_vertex-v.ensures.0
          (stack-vertex (vertex_count (state_of a.b.now)) (overgrown_of (state_of a.b.now) a.n)
          c.loop-i.i (overgrown_from 0) p.2.stack
          (omega (arith, tops-le (overgrown_of (state_of a.b.now) a.n)))),
    )

pub loop-i-preserved : goal.loop-i-preserved
loop-i-preserved c = let d = c.loop-i in
    let a = c.args in (
    list-more (may_go a.n (state_of a.b.now)) (empty_tops (overgrown_of (state_of a.b.now) a.n)) d.i 0
    (omega arith) d.invariant
    (rw (
      c.overgrown_vertex-v.ensures.0,
      top-at (overgrown_of (state_of a.b.now) a.n) d.i (overgrown_from 0) (omega arith),
    )
    at (sym c.may_go.ensures ∙ c.if-not-may_go.false))
    )

pub returns-then-not-may_go : goal.returns-then-not-may_go
returns-then-not-may_go c = let d = c.loop-i in
    let a = c.args in
    sym
    (list-fails (may_go a.n (state_of a.b.now)) (empty_tops (overgrown_of (state_of a.b.now) a.n)) d.i 0
    (omega arith)
    (rw (
      c.overgrown_vertex-v.ensures.0,
      top-at (overgrown_of (state_of a.b.now) a.n) d.i (overgrown_from 0) (omega arith),
    )
    at (sym c.may_go.ensures ∙ c.if-not-may_go.true)))

pub returns : goal.returns
returns c = let d = c.loop-i in
    let a = c.args in
    list_done (may_go a.n (state_of a.b.now)) (empty_tops (overgrown_of (state_of a.b.now) a.n)) d.i
    (omega arith) d.invariant

use native.Mathlib.Omega.{arith}
use Prim.Native.Nat.{◌+◌}
use mathlib.Core.Path.{refl, sym, ◌∙◌}
use lib.Dec.{eqb}
use borrow.Author.Tests.{eq-eqb, ne_eqb}
use Rattle.graph.specs.Basic.{all}
use Rattle.graph.specs.State.{Overgrown, vertex_count, vertex_holder_at, overgrown_of}
use Rattle.graph.specs.Layout.{state_of, overgrown_from}
use Rattle.graph.specs.laws.Scan.{list-more, list-fails, list_done}
use Rattle.shrink_pass.specs.laws.Top.{stack-vertex}
use Rattle.prepare_tested.proofs.held.holds_stack.Goals as goal

pub loop-i-init : goal.loop-i-init
unfolding all
loop-i-init c = refl

pub holder-requires : goal.holder-requires
holder-requires c = let a = c.args in
    let p = c.requires in (
      p.0,
      rw c.overgrown_vertex-v.ensures.0
          (stack-vertex (vertex_count (state_of a.b.now)) (overgrown_of (state_of a.b.now) a.n)
          c.loop-i.i (overgrown_from 0) p.2.stack (omega arith)),
    )

pub loop-i-preserved : goal.loop-i-preserved
loop-i-preserved c = let d = c.loop-i in
    let a = c.args in (
    list-more (λ (o : Overgrown). eqb (vertex_holder_at (state_of a.b.now) o.vertex) (a.n + 1))
    (overgrown_of (state_of a.b.now) a.n) d.i (overgrown_from 0) (omega arith) d.invariant
    (eq-eqb _ _
    (rw c.overgrown_vertex-v.ensures.0 at (sym c.holder.ensures.0 ∙ c.if-holder-n.false)))
    )

pub returns-then-holder-n : goal.returns-then-holder-n
returns-then-holder-n c = let d = c.loop-i in
    let a = c.args in
    sym
    (list-fails (λ (o : Overgrown). eqb (vertex_holder_at (state_of a.b.now) o.vertex) (a.n + 1))
    (overgrown_of (state_of a.b.now) a.n) d.i (overgrown_from 0) (omega arith)
    (ne_eqb _ _
    (λ z. c.if-holder-n.true (c.holder.ensures.0 ∙ rw c.overgrown_vertex-v.ensures.0 z))))

pub returns : goal.returns
returns c = let d = c.loop-i in
    let a = c.args in
    list_done (λ (o : Overgrown). eqb (vertex_holder_at (state_of a.b.now) o.vertex) (a.n + 1))
    (overgrown_of (state_of a.b.now) a.n) d.i (omega arith) d.invariant

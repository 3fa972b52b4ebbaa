use Rattle.graph_tests.specs.laws.Begin.{Begun, begun-none, begun_more, begun-fails, begun_all, passes}
use Rattle.graph.specs.inner.SidesAt.{first_word}
use Rattle.graph.specs.Layout.{state_of}
use Rattle.graph.specs.State.{vertex_count, side_count}
use lib.Dec.{leb}
use lib.ListN.{length-set}
use Prim.Native.Nat.{◌<◌}
use mathlib.Core.Bool.{true, false, ◌&&◌}
use mathlib.Core.Path.{◌≡◌, refl, sym, ◌∙◌, subst}
use lib.Dec.{T}
use native.Mathlib.Omega.{arith}
use Rattle.graph_tests.proofs.vertices.vertices_in.Goals as goal

pub loop-v-init : goal.loop-v-init
loop-v-init c = (begun-none _ _, refl)

pub loop-v-preserved : goal.loop-v-preserved
loop-v-preserved c = let b = c.args.b.now in
    let h : c.loop-v.v < vertex_count (state_of b) =
    omega
    (arith, c.loop-v-test.true, c.vertex_count-n.ensures) in
    let z : c.between.result ≡ leb c.loop-v.a (first_word b c.loop-v.v) && leb (first_word b c.loop-v.v) (side_count (state_of b)) =
    c.between.ensures ∙ rw (c.side_count-m.ensures.0, c.requires.2.words c.loop-v.v h) in
    let e : passes b c.loop-v.a c.loop-v.v ≡ true =
    rw (← c.vertex_numbers-x.ensures, ← z) c.if-not-x-between.false in
    let f : c.number-a.result ≡ first_word b c.loop-v.v = c.number-a.ensures ∙ c.requires.2.words c.loop-v.v h in
    let g : c.place.result ≡ first_word b c.loop-v.v = c.place.ensures ∙ f in (
      rw (f, g) (begun_more b c.requires.0 c.loop-v.v c.loop-v.a c.loop-v.next c.loop-v.invariant.0 h (omega (arith, h, c.loop-v.invariant.1, c.requires.3)) e),
      simp (length-set) c.loop-v.invariant.1,
    )

pub returns-then-not-x-between : goal.returns-then-not-x-between
returns-then-not-x-between c = let b = c.args.b.now in
    let h : c.loop-v.v < vertex_count (state_of b) = omega (arith, c.loop-v-test.true, c.vertex_count-n.ensures) in
    let z : c.between.result ≡ leb c.loop-v.a (first_word b c.loop-v.v) && leb (first_word b c.loop-v.v) (side_count (state_of b)) =
    c.between.ensures ∙ rw (c.side_count-m.ensures.0, c.requires.2.words c.loop-v.v h) in
    let e : passes b c.loop-v.a c.loop-v.v ≡ false = rw (← c.vertex_numbers-x.ensures, ← z) c.if-not-x-between.true in
    (begun-fails b c.requires.0 c.loop-v.v c.loop-v.a c.loop-v.next c.loop-v.invariant.0 h e, λ i. absurd (subst T (sym i) tt))

pub returns : goal.returns
returns c = let b = c.args.b.now in
    let z : c.loop-v.v ≡ vertex_count (state_of b) = omega (arith, c.loop-v-test.false, c.loop-v.auto.v-end, c.vertex_count-n.ensures) in
    let w : Begun b (vertex_count (state_of b)) c.loop-v.a c.loop-v.next = rw (← z) c.loop-v.invariant.0 in
    (begun_all b c.requires.0 c.loop-v.a c.loop-v.next w, λ i. w.firsts)

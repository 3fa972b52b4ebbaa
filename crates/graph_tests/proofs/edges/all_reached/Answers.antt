use Rattle.graph_tests.specs.inner.Walk.{reached_at}
use Rattle.graph_tests.specs.laws.Walk.{reached-before, reached-last}
use Rattle.graph.specs.laws.Scan.{all_more, all-fails}
use Rattle.graph.specs.Layout.{state_of}
use Rattle.graph.specs.State.{vertex_count}
use Rattle.graph.specs.Basic.{all_below}
use lib.Dec.{eqb}
use Prim.Native.Nat.{suc, ◌-◌, ◌+◌, ◌<◌}
use mathlib.Core.Bool.{true, false}
use mathlib.Core.Path.{◌≡◌, sym, ◌∙◌}
use native.Mathlib.Omega.{arith}
use borrow.Author.Rules.{rules}
use Rattle.graph_tests.proofs.edges.all_reached.Goals as goal

pub loop-v-init : goal.loop-v-init
unfolding all_below
loop-v-init c = search rules

pub loop-v-preserved : goal.loop-v-preserved
loop-v-preserved c = let b = c.args.b.now in
    let x = c.args.next.now in
    let h : c.loop-v.v + 1 < vertex_count (state_of b) = omega (arith, c.loop-v-test.true, c.vertex_count-n.ensures) in
    let z : c.holds.result ≡ reached_at b x c.loop-v.v =
    c.holds.ensures ∙ rw (reached-before b x c.loop-v.v h, c.requires.1.words (c.loop-v.v + 1) h, c.from.ensures) in
    let e : reached_at b x c.loop-v.v ≡ true = sym z ∙ c.if-not-holds.false in
    all_more _ _ c.loop-v.invariant e

pub returns-then-not-holds : goal.returns-then-not-holds
returns-then-not-holds c = let b = c.args.b.now in
    let x = c.args.next.now in
    let h : c.loop-v.v + 1 < vertex_count (state_of b) = omega (arith, c.loop-v-test.true, c.vertex_count-n.ensures) in
    let z : c.holds.result ≡ reached_at b x c.loop-v.v =
    c.holds.ensures ∙ rw (reached-before b x c.loop-v.v h, c.requires.1.words (c.loop-v.v + 1) h, c.from.ensures) in
    let e : reached_at b x c.loop-v.v ≡ false = sym z ∙ c.if-not-holds.true in
    sym (all-fails (reached_at b x) (vertex_count (state_of b)) c.loop-v.v (omega (arith, h)) e)

pub returns : goal.returns
unfolding all_below
returns c = let b = c.args.b.now in
    let x = c.args.next.now in
    let m = c.vertex_count-n in
    let v = m.result - 1 in
    let z : vertex_count (state_of b) ≡ suc v = omega (arith, m.ensures) in
    let i : c.loop-v.v ≡ v = omega (arith, c.loop-v-test.false, c.loop-v.auto.v-end) in
    let t : all_below (reached_at b x) v ≡ true = rw (← i) c.loop-v.invariant in
    let u : eqb c.side_count.result c.from-2.result ≡ reached_at b x v =
    rw (c.from-2.ensures, c.side_count.ensures.0) (sym (reached-last b x v (omega (arith, z)))) in
    rw (z, t) u

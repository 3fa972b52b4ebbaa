use Rattle.graph.specs.laws.State.{and_left, and_right}
use Rattle.graph.specs.Layout.{state_of, state_from}
use Rattle.graph.specs.Sound.{edge_sound}
use Rattle.graph.specs.Form.{Laid}
use Rattle.graph.specs.Open.{weight_limit}
use Rattle.graph.specs.State.{vertex_count, side_count, end_at, weight_at, original_at}
use Rattle.graph.specs.Word.{word_at}
use borrow.Author.Tests.{ltb-true}
use lib.Dec.{ltb, leb}
use Prim.Native.Nat.{◌+◌, ◌*◌, ◌<◌}
use mathlib.Core.Bool.{◌&&◌, true, false}
use mathlib.Core.Path.{◌≡◌, sym, ap, ◌∙◌}
use native.Mathlib.Omega.{arith}
use Rattle.graph_tests.proofs.edges.edge_sound.Goals as goal

pub below-x-requires : goal.below-x-requires
unfolding Laid
below-x-requires c = let p = c.requires in (omega (arith, p.2.ends.size), omega (arith, c.vertex_count-v.ensures))

pub below-y-requires : goal.below-y-requires
unfolding Laid
below-y-requires c = let p = c.requires in (omega (arith, p.2.ends.size), omega (arith, c.vertex_count-v.ensures))

pub number-p-requires : goal.number-p-requires
unfolding Laid
number-p-requires c = let w = word_at c.args.end.now (2 * c.args.i) in
    let v = c.vertex_count-v.result in
    let h = ltb-true w v (sym c.below-x.ensures ∙ and_left c.below-x.result c.below-y.result c.if-x-y.true) in
    (omega (arith, c.requires.2.ends.size), omega (arith, h, c.vertex_count-v.ensures))

pub number-q-requires : goal.number-q-requires
unfolding Laid
number-q-requires c = let w = word_at c.args.end.now (2 * c.args.i + 1) in
    let v = c.vertex_count-v.result in
    let h =
    ltb-true w v
    (sym c.below-y.ensures
    ∙ and_right c.below-x.result c.below-y.result
    c.if-x-y.true) in
    (omega (arith, c.requires.2.ends.size), omega (arith, h, c.vertex_count-v.ensures))

pub returns-then-x-y : goal.returns-then-x-y
unfolding edge_sound state_of state_from Laid
returns-then-x-y c = let p = c.requires in
    let i = c.args.i in
    let w = state_of c.args.b.now in
    let f : 2 * i < side_count w = omega arith in
    let g : 2 * i + 1 < side_count w = omega arith in
    let v = c.vertex_count-v in
    let x : c.below-x.result ≡ ltb (end_at w (2 * i)) (vertex_count w) =
    c.below-x.ensures ∙ rw (v.ensures.0, p.2.ends.words (2 * i) f) in
    let y : c.below-y.result ≡ ltb (end_at w (2 * i + 1)) (vertex_count w) =
    c.below-y.ensures ∙ rw (v.ensures.0, p.2.ends.words (2 * i + 1) g) in
    let t : ltb (end_at w (2 * i)) (vertex_count w) && ltb (end_at w (2 * i + 1)) (vertex_count w) ≡ true =
    rw (← x, ← y) c.if-x-y.true in
    let ep : c.number-p.result ≡ end_at w (2 * i) = c.number-p.ensures ∙ p.2.ends.words (2 * i) f in
    let eq : c.number-q.result ≡ end_at w (2 * i + 1) = c.number-q.ensures ∙ p.2.ends.words (2 * i + 1) g in
    let el : c.at_most-w.result ≡ leb (weight_at w i) weight_limit =
    c.at_most-w.ensures ∙ ap (λ k. leb k weight_limit) (p.2.weights.words i p.1) in
    let eo : c.at_most-o.result ≡ leb (original_at w i) weight_limit = c.at_most-o.ensures ∙ ap (λ k. leb k weight_limit) (p.2.originals.words i p.1) in
    rw (t, ep, eq, el, eo)

pub returns-else-x-y : goal.returns-else-x-y
unfolding edge_sound state_of state_from Laid
returns-else-x-y c = let p = c.requires in
    let i = c.args.i in
    let w = state_of c.args.b.now in
    let f : 2 * i < side_count w = omega arith in
    let g : 2 * i + 1 < side_count w = omega arith in
    let v = c.vertex_count-v in
    let x : c.below-x.result ≡ ltb (end_at w (2 * i)) (vertex_count w) =
    c.below-x.ensures ∙ rw (v.ensures.0, p.2.ends.words (2 * i) f) in
    let y : c.below-y.result ≡ ltb (end_at w (2 * i + 1)) (vertex_count w) =
    c.below-y.ensures ∙ rw (v.ensures.0, p.2.ends.words (2 * i + 1) g) in
    let t : ltb (end_at w (2 * i)) (vertex_count w) && ltb (end_at w (2 * i + 1)) (vertex_count w) ≡ false = rw (← x, ← y) c.if-x-y.false in
    rw t

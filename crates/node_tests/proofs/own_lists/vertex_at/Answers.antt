use Rattle.node_tests.specs.laws.Entry.{entry-word, entry-vertex}
use Rattle.graph.specs.laws.Stamp.{overgrown-vertex}
use Rattle.graph.specs.Sound.{over_sound}
use Rattle.graph.specs.Layout.{state_of, overgrown_from}
use Rattle.graph.specs.inner.Lists.{store_of}
use lib.ListN.{get_or}
use mathlib.Core.Bool.{true}
use mathlib.Core.Path.{◌≡◌, ◌∙◌}
use native.Mathlib.Omega.{arith}
use Rattle.node_tests.proofs.own_lists.vertex_at.Goals as goal

pub number-requires : goal.number-requires
number-requires c = let b = c.args.b.now in
    let p = c.entry_place in
    let x = get_or (store_of b) p.result 0 in
    let e : over_sound (state_of b) (overgrown_from x) ≡ true = rw p.ensures.0 c.requires.5 in
    let h = entry-word (state_of b) x e in
    (omega (arith, c.requires.4.size, p.ensures.1), rw (c.requires.4.words p.result p.ensures.1) (omega (arith, h)))

pub returns : goal.returns
returns c = let b = c.args.b.now in
    let p = c.entry_place in
    let x = get_or (store_of b) p.result 0 in
    let e : over_sound (state_of b) (overgrown_from x) ≡ true = rw p.ensures.0 c.requires.5 in
    let f = c.number.ensures ∙ c.requires.4.words p.result p.ensures.1 in
    let v = entry-vertex (state_of b) x e in
    (rw (f, overgrown-vertex (state_of b) c.args.n c.args.i, ← p.ensures.0) v.0, rw f v.1)

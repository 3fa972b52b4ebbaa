use Rattle.graph_tests.specs.laws.Walk.{walking-more, walking-fails}
use Rattle.graph_tests.specs.inner.Walk.{placed_at}
use Rattle.graph.specs.laws.State.{and_left}
use Rattle.graph.specs.Form.{Laid}
use Rattle.graph.specs.Layout.{rows_of, row, state_of, state_from}
use Rattle.graph.specs.State.{side_count, end_at}
use borrow.Author.Tests.{ltb-true}
use lib.Dec.{T, ltb, eqb}
use lib.ListN.{get_or}
use Prim.Native.Nat.{◌+◌}
use mathlib.Core.Bool.{true, false}
use mathlib.Core.Path.{◌≡◌, sym, ap, ◌∙◌, subst}
use native.Mathlib.Omega.{arith}
use Rattle.graph.specs.Rows.{at_row}
use Rattle.graph_tests.proofs.edges.walk_side.Goals as goal

pub number-v-requires : goal.number-v-requires
unfolding Laid state_of state_from
number-v-requires c = (omega (arith, c.requires.4.size), rw (c.requires.4.words c.args.s c.requires.2) (omega (arith, c.requires.3)))

pub offset_bounds-next-v : goal.offset_bounds-next-v
unfolding Laid state_of state_from
offset_bounds-next-v c = omega (arith, c.number-v.ensures ∙ c.requires.4.words c.args.s c.requires.2, c.requires.3)

pub bounds-next-v : goal.bounds-next-v
unfolding state_of state_from
bounds-next-v c = omega (arith, c.number-v.ensures ∙ c.requires.4.words c.args.s c.requires.2, c.requires.3, c.requires.6)

pub place-requires : goal.place-requires
unfolding Laid placed_at
place-requires c = let p = c.from-p.result in
    let b = c.args.b.now in
    let h = ltb-true p (side_count (state_of b))
    (and_left (ltb p (side_count (state_of b))) (eqb (get_or (row (rows_of b) at_row) p 0) c.args.s) (sym c.placed_at.ensures ∙ c.if-placed_at.true)) in
    omega (arith, h)

pub offset_bounds-next-v-then-placed_at : goal.offset_bounds-next-v-then-placed_at
unfolding Laid state_of state_from
offset_bounds-next-v-then-placed_at c = omega (arith, c.number-v.ensures ∙ c.requires.4.words c.args.s c.requires.2, c.requires.3)

pub bounds-next-v-then-placed_at : goal.bounds-next-v-then-placed_at
unfolding state_of state_from
bounds-next-v-then-placed_at c = omega (arith, c.number-v.ensures ∙ c.requires.4.words c.args.s c.requires.2, c.requires.3, c.requires.6)

pub returns-then-placed_at : goal.returns-then-placed_at
unfolding state_of state_from
returns-then-placed_at c = let b = c.args.b.now in
    let k = c.args.s in
    let l = c.args.next.now in
    let ev : c.number-v.result ≡ end_at (state_of b) k =
    c.number-v.ensures ∙ c.requires.4.words k c.requires.2 in
    let ep : c.from-p.result ≡ get_or l (end_at (state_of b) k) 0 = c.from-p.ensures ∙ ap (λ v. get_or l v 0) ev in
    let e : placed_at b (get_or l (end_at (state_of b) k) 0) k ≡ true = rw (← ep) (sym c.placed_at.ensures ∙ c.if-placed_at.true) in
    let z : c.place.result ≡ get_or l (end_at (state_of b) k) 0 + 1 = c.place.ensures ∙ ap (λ p. p + 1) ep in (
      λ i. rw (ev, z) (walking-more b k l c.requires.7 c.requires.3 (omega (arith, c.requires.3, c.requires.6)) e),
      λ i. absurd (subst T i tt),
    )

pub returns-else-placed_at : goal.returns-else-placed_at
unfolding state_of state_from
returns-else-placed_at c = let b = c.args.b.now in
    let k = c.args.s in
    let l = c.args.next.now in
    let ev : c.number-v.result ≡ end_at (state_of b) k =
    c.number-v.ensures ∙ c.requires.4.words k c.requires.2 in
    let ep : c.from-p.result ≡ get_or l (end_at (state_of b) k) 0 = c.from-p.ensures ∙ ap (λ v. get_or l v 0) ev in
    let e : placed_at b (get_or l (end_at (state_of b) k) 0) k ≡ false = rw (← ep) (sym c.placed_at.ensures ∙ c.if-placed_at.false) in
    (λ i. absurd (subst T (sym i) tt), λ i. walking-fails b k l c.requires.7 c.requires.3 c.requires.0 c.requires.1 c.requires.2 e)

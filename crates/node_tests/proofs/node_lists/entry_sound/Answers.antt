use Rattle.node_tests.specs.laws.Entry.{entry-small, entry-large}
use Rattle.graph.specs.Layout.{state_of}
use Rattle.graph.specs.Word.{word_at}
use Rattle.graph.specs.inner.Lists.{store_of}
use borrow.Author.Tests.{leb-true}
use lib.Dec.{leb}
use mathlib.Core.Bool.{true, false}
use lib.ListN.{get_or}
use mathlib.Core.Path.{◌≡◌, sym, ◌∙◌}
use native.Mathlib.Omega.{arith}
use Rattle.node_tests.proofs.node_lists.entry_sound.Goals as goal

pub at_most-requires : goal.at_most-requires
at_most-requires c = (omega (arith, c.requires.4.size, c.entry_place-p.ensures.1), omega arith)

pub number-requires : goal.number-requires
number-requires c = let p = c.entry_place-p in
    let m = leb-true (word_at c.args.store.now p.result) 1024000001023 (sym c.at_most.ensures ∙ c.if-at_most.true) in
    (omega (arith, c.requires.4.size, p.ensures.1), omega (arith, m))

pub returns-then-at_most : goal.returns-then-at_most
returns-then-at_most c = let p = c.entry_place-p in
    let x = get_or (store_of c.args.b.now) p.result 0 in
    let w : word_at c.args.store.now p.result ≡ x = c.requires.4.words p.result p.ensures.1 in
    let e : leb x 1024000001023 ≡ true = rw (← w) (sym c.at_most.ensures ∙ c.if-at_most.true) in
    rw (c.vertex_count.ensures.0, c.number.ensures ∙ w, ← p.ensures.0) (entry-small (state_of c.args.b.now) x e)

pub returns-else-at_most : goal.returns-else-at_most
returns-else-at_most c = let p = c.entry_place-p in
    let x = get_or (store_of c.args.b.now) p.result 0 in
    let w : word_at c.args.store.now p.result ≡ x = c.requires.4.words p.result p.ensures.1 in
    let e : leb x 1024000001023 ≡ false = rw (← w) (sym c.at_most.ensures ∙ c.if-at_most.false) in
    rw (← p.ensures.0) (entry-large (state_of c.args.b.now) x e)

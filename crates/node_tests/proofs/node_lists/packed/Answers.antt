use native.Mathlib.Omega.{arith}
use mathlib.Core.Path.{◌≡◌, sym, ◌∙◌}
use mathlib.Core.Bool.{true, false}
use Rattle.node_tests.specs.laws.Pack.{fits-of, node_fits, packing-none, packing-more, packing-fails, packing-all}
use Rattle.node_tests.proofs.node_lists.packed.Goals as goal

pub loop-n-init : goal.loop-n-init
loop-n-init c = packing-none _ c.requires

pub overflow_add-a : goal.overflow_add-a
overflow_add-a c =
    let f =
    fits-of c.loop-n.a
    c.store_limit-l.result
    c.node_word-s.result c.node_word-k.result
    c.node_word-o.result (sym c.fits_at.ensures ∙ c.if-not-fits_at.false) in
    omega arith

pub overflow_add-a-in-loop-n : goal.overflow_add-a-in-loop-n
overflow_add-a-in-loop-n c =
    let f =
    fits-of c.loop-n.a
    c.store_limit-l.result
    c.node_word-s.result c.node_word-k.result
    c.node_word-o.result (sym c.fits_at.ensures ∙ c.if-not-fits_at.false) in
    omega arith

pub loop-n-preserved : goal.loop-n-preserved
loop-n-preserved c =
    let b = c.args.b.now in
    let n = c.loop-n.n in
    let a = c.loop-n.a in
    let e : node_fits b a n ≡ true = cc in
    rw (c.node_word-k.ensures.0, c.node_word-o.ensures.0)
    (packing-more b c.requires n a c.loop-n.invariant (omega arith) e)

pub returns-then-not-fits_at : goal.returns-then-not-fits_at
returns-then-not-fits_at c =
    let b = c.args.b.now in
    let n = c.loop-n.n in
    let a = c.loop-n.a in
    let e : node_fits b a n ≡ false = cc in
    packing-fails b c.requires n a c.loop-n.invariant (omega arith) e

pub returns : goal.returns
returns c = packing-all _ c.requires _ _ c.loop-n.invariant (omega arith)

use native.Mathlib.Omega.{arith}
use mathlib.Core.Path.{◌≡◌}
use Rattle.graph.specs.laws.List.{lists_of, overgrown-entry}
use Rattle.graph.specs.inner.Lists.{olen_word, blen_word}
use borrow.Author.Rules.{rules}
use Rattle.graph.proofs.lists.overgrown_word.Goals as goal

pub store_word-requires : goal.store_word-requires
store_word-requires c =
    let q = lists_of c.args.b.now c.args.n c.requires.0 c.requires.1 c.requires.2 in
    (c.requires.0, omega arith)

pub returns : goal.returns
returns c = let q = lists_of c.args.b.now c.args.n c.requires.0 c.requires.1 c.requires.2 in
    let x : c.boundary_len-k.result ≡ blen_word c.args.b.now c.args.n = omega arith in
    let y : c.overgrown_len-o.result ≡ olen_word c.args.b.now c.args.n = omega arith in (
      rw (c.store_word.ensures.0, c.start-a.ensures.0, x, y)
          (overgrown-entry c.args.b.now c.args.n c.args.i c.requires.0 q (omega arith)),
      search rules,
    )

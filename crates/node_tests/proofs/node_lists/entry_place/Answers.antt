use native.Mathlib.Omega.{arith}
use mathlib.Core.Path.{◌≡◌}
use Rattle.graph.specs.laws.List.{lists_of, overgrown-entry}
use Rattle.graph.specs.inner.Lists.{olen_word, blen_word}
use Rattle.node_tests.proofs.node_lists.entry_place.Goals as goal

pub returns : goal.returns
returns c = let q = lists_of c.args.b.now c.args.n c.requires.0 c.requires.1 c.requires.2 in
    let x : c.boundary_len-k.result ≡ blen_word c.args.b.now c.args.n = omega arith in
    let y : c.overgrown_len-o.result ≡ olen_word c.args.b.now c.args.n = omega arith in (
      rw (c.start-a.ensures.0, x, y) (overgrown-entry c.args.b.now c.args.n c.args.i c.requires.0 q (omega arith)),
      omega arith,
    )

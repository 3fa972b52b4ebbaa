use Prim.Native.Nat.{◌+◌, ◌-◌}
use native.Mathlib.Omega.{arith}
use Rattle.graph.specs.laws.List.{lists_of}
use Rattle.graph.specs.laws.Top.{top-put}
use Rattle.graph.proofs.top.set_amount.Goals as goal

pub store_word-w-requires : goal.store_word-w-requires
store_word-w-requires c =
    let q = lists_of c.args.b.now c.args.n c.requires.0.laid c.requires.0.listed c.requires.1 in (
      c.requires.0.laid,
      omega (
        arith,
        q.within,
        q.boundary-length,
        q.overgrown-length,
        c.start-a.ensures.0,
        c.boundary_len-k.ensures.0,
        c.overgrown_len-o.ensures.0,
        c.requires.2,
      ),
    )

pub put_store-requires : goal.put_store-requires
put_store-requires c =
    let q = lists_of c.args.b.now c.args.n c.requires.0.laid c.requires.0.listed c.requires.1 in (
      c.requires.0.laid,
      omega (
        arith,
        q.within,
        q.boundary-length,
        q.overgrown-length,
        c.start-a.ensures.0,
        c.boundary_len-k.ensures.0,
        c.overgrown_len-o.ensures.0,
        c.requires.2,
      ),
      omega (arith, c.requires.3),
    )

pub returns : goal.returns
returns c =
    let q = lists_of c.args.b.now c.args.n c.requires.0.laid c.requires.0.listed c.requires.1 in
    top-put c.args.b.now c.put_store.new.b c.args.n c.args.x
    (c.start-a.result
    + c.boundary_len-k.result +
    (c.overgrown_len-o.result - 1))
    c.requires.0 c.requires.1 (omega (arith, q.overgrown-length, c.requires.2))
    (omega (
      arith,
      q.boundary-length,
      q.overgrown-length,
      c.start-a.ensures.0,
      c.boundary_len-k.ensures.0,
      c.overgrown_len-o.ensures.0,
    ))
    (rw c.store_word-w.ensures.0 at c.put_store.ensures)

use mathlib.Core.Path.{◌≡◌, sym, ◌∙◌}
use mathlib.Core.Bool.{true, false}
use borrow.Author.Tests.{lt-leb, le-leb}
use Rattle.graph.specs.Open.{sizes_ok}
use Rattle.graph.specs.Layout.{v_of, e_of, n_of, l_of, sized}
use Rattle.graph.proofs.sizes.sized.Goals as goal

pub returns-then-b-lt16 : goal.returns-then-b-lt16
unfolding sized
returns-then-b-lt16 c = rw (lt-leb _ _ c.if-b-lt16.true)

pub block_length-requires : goal.block_length-requires
block_length-requires c = sym c.sizes_ok.ensures ∙ c.if-sizes_ok.true

pub returns-then-sizes_ok : goal.returns-then-sizes_ok
unfolding sized
returns-then-sizes_ok c =
    let b = c.args.b.now in
    let z : sizes_ok (v_of b) (e_of b) (n_of b) (l_of b) ≡ true = cc in
    rw (le-leb _ _ c.if-b-lt16.false, z) (cc)

pub returns-else-sizes_ok : goal.returns-else-sizes_ok
unfolding sized
returns-else-sizes_ok c =
    let b = c.args.b.now in
    let z : sizes_ok (v_of b) (e_of b) (n_of b) (l_of b) ≡ false = cc in
    rw (le-leb _ _ c.if-b-lt16.false, z)

use mathlib.Core.Path.{◌∙◌}
use native.Mathlib.Omega.{arith}
use Rattle.node_tests.proofs.node_lists.is_side.Goals as goal

pub below-requires : goal.below-requires
below-requires c = (omega (arith, c.requires.4.size, c.side_place-p.ensures.1), omega (arith, c.side_count-m.ensures))

pub returns-then-m-le8192 : goal.returns-then-m-le8192
returns-then-m-le8192 c = let p = c.side_place-p in
    c.below.ensures ∙ rw (c.side_count-m.ensures.0, c.requires.4.words p.result p.ensures.1, p.ensures.0)

pub returns-else-m-le8192 : goal.returns-else-m-le8192
returns-else-m-le8192 c = absurd (omega (arith, c.if-m-le8192.false, c.side_count-m.ensures.2))

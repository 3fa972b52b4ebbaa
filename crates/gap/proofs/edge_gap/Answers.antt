use borrow.Author.Tests.{lt-ltb, le-ltb}
use Rattle.gap.specs.Gap.{edge_gap}
use Rattle.gap.proofs.edge_gap.Goals as goal

pub returns-then-is_inner : goal.returns-then-is_inner
unfolding edge_gap
returns-then-is_inner c = rw (← c.is_inner.ensures, c.if-is_inner.true)

pub returns-then-w-g : goal.returns-then-w-g
unfolding edge_gap
returns-then-w-g c =
    let i = c.is_inner.ensures in
    let w = c.weight-w.ensures.0 in
    let g = c.growth.ensures.0 in
    let h = c.growth-2.ensures.0 in
    rw (← i, c.if-is_inner.false, ← w, ← g, ← h, lt-ltb _ _ c.if-w-g.true)

pub returns-else-w-g : goal.returns-else-w-g
unfolding edge_gap
returns-else-w-g c =
    let i = c.is_inner.ensures in
    let w = c.weight-w.ensures.0 in
    let g = c.growth.ensures.0 in
    let h = c.growth-2.ensures.0 in
    rw (← i, c.if-is_inner.false, ← w, ← g, ← h, le-ltb _ _ c.if-w-g.false)

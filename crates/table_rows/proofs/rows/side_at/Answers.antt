use Rattle.table_rows.specs.laws.Side.{side-not-covered, side-covered}
use Rattle.table_words.specs.Handed.{distance_in}
use Rattle.table_rows.proofs.rows.side_at.Goals as goal

pub returns-then-y-n : goal.returns-then-y-n
returns-then-y-n c =
    let a = c.args in
    side-not-covered a.edges.now a.growths.now (distance_in a.row.now) a.y a.s _ _ c.near.ensures.0 c.distance_in-n.ensures.0
    c.if-y-n.true

pub returns : goal.returns
returns c =
    let a = c.args in
    side-covered a.edges.now a.growths.now (distance_in a.row.now) a.y a.s _ _ c.near.ensures.0 c.distance_in-n.ensures.0
    c.if-y-n.false _ _ _ _ _ c.across.ensures.0 c.distance_in-f.ensures.0 c.weight.ensures.0 c.number.ensures.0
    c.share.ensures

use Rattle.small_patches.specs.Reach.{spread_along}
use Rattle.graph.specs.Opening.{edge_at}
use Rattle.small_patches.proofs.reach.spread_along.Goals as goal

pub returns : goal.returns
unfolding spread_along edge_at
returns c =
    rw (c.spread_to-2.ensures, c.spread_to.ensures, c.given-right.ensures.0, c.given-left.ensures.0)

-- A name that opens all definitions of this crate: under `unfolding everything` a closed term computes.
use Rattle.std.specs.Prelude.{ℕ}
use Rattle.distance.specs.Graph
use Rattle.distance.specs.Distance
use Rattle.distance.specs.Nearest
use Rattle.distance.specs.Table

unfoldable pub everything : ℕ
unfolding Graph.other_side Graph.near Graph.across Graph.weight Distance.unreachable Distance.start_distances
    Distance.relax_side Distance.relax_sides Distance.relax_until_stable Distance.distances_from Distance.dist Nearest.if_virtual
    Nearest.nearest_virtual_below Nearest.nearest_virtual Table.first_from Table.owner Table.share Table.growth
    Table.growths_below Table.table_from_distances
everything = 0

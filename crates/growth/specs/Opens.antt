-- A name that opens all definitions of this crate: under `unfolding everything` a closed term computes.
use Rattle.std.specs.Prelude.{ℕ}
use Rattle.growth.specs.Growth

unfoldable pub everything : ℕ
unfolding Growth.top_is Growth.passes_weight Growth.passes_limit Growth.falls_short Growth.grow_check Growth.moved_stack
    Growth.move_side Growth.grow_apply
everything = 0

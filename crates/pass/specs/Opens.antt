-- A name that opens all definitions of this crate and of those below: under `unfolding everything` a closed term computes.
use Rattle.std.specs.Prelude.{ℕ}
use Rattle.graph.specs.Opens as Graph
use Rattle.pass.specs.Work
use Rattle.pass.specs.Grow
use Rattle.pass.specs.Shrink
use Rattle.pass.specs.Prepare

unfoldable pub everything : ℕ
unfolding Graph.everything Work.on_state Work.keep Work.keep_once Work.note Work.push Work.call_another Work.start_pass
    Work.finish_pass Grow.reaches Grow.grow_step Grow.take_side Grow.take_vertex Grow.take_step Grow.grow_scanned
    Grow.grow_pass Shrink.empty_tops Shrink.below_tops Shrink.drop_side Shrink.drop_step Shrink.shrink_step Shrink.closed
    Shrink.release_side Shrink.release_step Shrink.dropped Shrink.shrink_scanned Shrink.shrink_pass Prepare.one_pass
    Prepare.prepare_from Prepare.prepare_node
everything = 0

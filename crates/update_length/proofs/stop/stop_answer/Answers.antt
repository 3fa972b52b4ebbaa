use native.Mathlib.Omega.{arith}
use Rattle.graph.specs.Layout.{state_of}
use Rattle.update_length.specs.laws.Scanning.{stop-defect, stop-blossom}
use Rattle.update_length.proofs.stop.stop_answer.Goals as goal

pub returns-then-x-vertex_count : goal.returns-then-x-vertex_count
returns-then-x-vertex_count c =
    stop-defect (state_of c.args.b.now) c.args.n _ c.class-x.ensures.0
    (omega arith) c.peers_at-r.ensures c.stop_with.ensures

pub returns-else-x-vertex_count : goal.returns-else-x-vertex_count
returns-else-x-vertex_count c = stop-blossom (state_of c.args.b.now) c.args.n _ c.class-x.ensures.0 (omega arith)

use native.Mathlib.Omega.{arith}
use Rattle.graph.specs.Layout.{state_of}
use Rattle.update_length.specs.laws.Scanning.{peers-none, peers-more}
use Rattle.update_length.proofs.stop.peers_at.Goals as goal

pub loop-i-init : goal.loop-i-init
loop-i-init c = (peers-none (state_of c.args.b.now) c.args.v)

pub loop-i-preserved : goal.loop-i-preserved
loop-i-preserved c =
    let a = c.args in
    let q = c.loop-i in (
    peers-more (state_of a.b.now) a.v q.i _ (omega arith) c.vertex_side-s.ensures.0 q.invariant
    c.stop_step-r.ensures
    )

use mathlib.Core.Path.{◌≡◌}
use lib.ListN.{take}
use Rattle.graph.specs.Basic.{fold}
use Rattle.graph.specs.State.{sides_at}
use Rattle.graph.specs.Layout.{state_of}
use Rattle.update_length.specs.Scan.{no_peer, stop_step}
use Rattle.update_length.specs.inner.Length.{peers_of}
use Rattle.update_length.proofs.stop.peers_at.Given as goal

abbrev pub invariant-loop-i : goal.invariant-loop-i
invariant-loop-i l = (peers_of l.r ≡ fold (stop_step (state_of l.b)) no_peer (take l.i (sides_at (state_of l.b) l.v)))

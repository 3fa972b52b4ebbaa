use mathlib.Core.Path.{sym, ◌∙◌}
use Rattle.update_length.specs.Scan.{stop_step}
use Rattle.update_length.proofs.stop.stop_step.Goals as goal

pub returns-then-meets_peer : goal.returns-then-meets_peer
unfolding stop_step
returns-then-meets_peer c =
    rw
    (sym c.meets_peer.ensures
    ∙ c.if-meets_peer.true)
    (cc)

pub returns-else-meets_peer : goal.returns-else-meets_peer
unfolding stop_step
returns-else-meets_peer c = rw (sym c.meets_peer.ensures ∙ c.if-meets_peer.false)

use Rattle.calls.specs.Refuse.{in_blossom}
use Rattle.calls.proofs.refuse.in_blossom.Goals as goal

pub returns : goal.returns
unfolding in_blossom
returns c = rw c.parent.ensures.0

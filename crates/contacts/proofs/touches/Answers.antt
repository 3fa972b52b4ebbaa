use Rattle.calls.specs.Contacts.{touches}
use Rattle.contacts.proofs.touches.Goals as goal

pub returns : goal.returns
unfolding touches
returns c = rw (c.weight.ensures.0, c.growth-h.ensures.0, c.growth-g.ensures.0)

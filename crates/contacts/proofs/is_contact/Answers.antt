use mathlib.Core.Path.{refl}
use Rattle.calls.specs.Contacts.{is_contact}
use Rattle.contacts.proofs.is_contact.Goals as goal

pub returns-then-touches : goal.returns-then-touches
unfolding is_contact
returns-then-touches c =
    rw (← c.touches.ensures, c.if-touches.true, ← c.side_node-p.ensures.0, ← c.side_node-q.ensures.0) c.joins.ensures

pub returns-else-touches : goal.returns-else-touches
unfolding is_contact
returns-else-touches c = rw (← c.touches.ensures, c.if-touches.false) refl

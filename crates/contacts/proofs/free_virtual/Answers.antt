use mathlib.Core.Path.{refl}
use Rattle.calls.specs.Contacts.{free_virtual}
use Rattle.contacts.proofs.free_virtual.Goals as goal

pub returns : goal.returns
unfolding free_virtual
returns c =
    rw (← c.holder-h.ensures.0, ← c.end-v.ensures.0) (rw (← c.holder-k.ensures.0, ← c.virtual_flag-f.ensures.0) refl)

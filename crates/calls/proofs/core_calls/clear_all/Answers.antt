use mathlib.Core.Path.{refl}
use Rattle.calls.specs.Calls.{clear}
use Rattle.calls.proofs.core_calls.clear_all.Goals as goal

pub returns : goal.returns
unfolding clear
returns c = let p = c.clear.ensures in (refl, p.state, p)

use Rattle.gap.specs.Gap.{is_inner}
use Rattle.gap.proofs.is_inner.Goals as goal

pub returns : goal.returns
unfolding is_inner
returns c = rw (← c.holder-h.ensures.0, ← c.holder-k.ensures.0)

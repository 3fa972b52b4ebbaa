use Rattle.remove.specs.laws.Call.{blossom-word}
use Rattle.remove.proofs.is_bare.Goals as goal

pub returns : goal.returns
returns c = rw (← c.class-x.ensures.0, blossom-word _ _, ← c.vertex_count-v.ensures.0, ← c.dual.ensures.0)

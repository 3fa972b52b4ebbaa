use Rattle.active_list.specs.laws.Words.{list_pushed}
use native.Mathlib.Omega.{arith}
use Rattle.active_list.proofs.push.Goals as goal

pub returns : goal.returns
returns c =
    list_pushed _ _ _ c.requires.0 _ c.args.n
    c.active_count-k.ensures.0 (omega arith)
    c.put_active.ensures c.put_active_count.ensures

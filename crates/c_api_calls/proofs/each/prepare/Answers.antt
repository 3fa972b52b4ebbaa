use native.Mathlib.Omega.{arith}
use Rattle.c_api.specs.laws.Words.{told-all}
use Rattle.c_api_calls.specs.ListCall.{list_prepare}
use Rattle.c_api_calls.specs.Told.{ListedTold}
use Rattle.c_api_calls.specs.Tests.{keeps}
use Rattle.c_api_calls.specs.laws.Done.{call-done}
use borrow.Author.Rules.{rules}
use Rattle.c_api_calls.proofs.each.prepare.Goals as goal

pub returns : goal.returns
unfolding ListedTold keeps
returns c =
    let r = c.prepare_dual_node_growth-k.ensures in
    let k = c.tell_known.ensures in
    rw (
      ← c.word-n.ensures.0,
      ← c.word-d.ensures.0,
    )
    (call-done (list_prepare _ _) _ (told-all (omega arith) _ r.0 k.0) r.1 r.2 k.1 k.2)

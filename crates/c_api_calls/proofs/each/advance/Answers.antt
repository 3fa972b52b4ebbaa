use native.Mathlib.Omega.{arith}
use Rattle.c_api.specs.laws.Words.{told-all}
use Rattle.c_api_calls.specs.ListCall.{list_advance}
use Rattle.c_api_calls.specs.Told.{ListedTold}
use Rattle.c_api_calls.specs.Tests.{keeps}
use Rattle.c_api_calls.specs.laws.Done.{call-done}
use borrow.Author.Rules.{rules}
use Rattle.c_api_calls.proofs.each.advance.Goals as goal

pub returns : goal.returns
unfolding ListedTold keeps
returns c =
    let r = c.advance-k.ensures in
    let k = c.tell_known.ensures in
    rw (← c.word-n.ensures.0)
    (call-done (list_advance _) _ (told-all (omega arith) _ r.0 k.0) r.1 r.2 k.1 k.2)

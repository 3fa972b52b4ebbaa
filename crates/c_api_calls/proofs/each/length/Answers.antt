use native.Mathlib.Omega.{arith}
use borrow.Author.Tests.{le-leb, lt-leb}
use Rattle.c_api.specs.laws.Words.{told-all}
use Rattle.c_api_calls.specs.ListCall.{length_call, list_length}
use Rattle.c_api_calls.specs.Told.{ListedTold}
use Rattle.c_api_calls.specs.Tests.{keeps}
use Rattle.c_api_calls.specs.laws.Done.{call-done, other-done}
use borrow.Author.Tests.{le-leb, lt-leb}
use borrow.Author.Tests.{le-leb, lt-leb}
use borrow.Author.Rules.{rules}
use Rattle.c_api_calls.proofs.each.length.Goals as goal

pub returns-then-z-gt1 : goal.returns-then-z-gt1
unfolding length_call
returns-then-z-gt1 c =
    let k = c.other.ensures in
    rw (← c.word-z.ensures.0, lt-leb _ _ c.if-z-gt1.true)
    (other-done c.requires.0.accepted c.requires.2 k.0 k.1 k.2 c.requires.0.cleared)

pub returns : goal.returns
unfolding length_call ListedTold keeps
returns c =
    let r = c.compute_maximum_update_length_dual_node-k.ensures in
    let k = c.tell_known.ensures in
    rw (
      ← c.word-n.ensures.0,
      ← c.word-d.ensures.0,
      ← c.word-z.ensures.0,
      le-leb _ _ c.if-z-gt1.false,
    )
    (call-done (list_length _ _ _) _ (told-all (omega arith) _ r.0 k.0) r.1 r.2 k.1 k.2)

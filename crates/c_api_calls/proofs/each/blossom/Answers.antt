use Prim.Native.Nat.{◌+◌, ◌-◌}
use mathlib.Core.Path.{◌≡◌}
use native.Mathlib.Omega.{arith}
use borrow.Author.Tests.{le-leb, lt-leb}
use Rattle.c_api.specs.laws.Words.{told-all}
use Rattle.c_api_calls.specs.Told.{ListedTold}
use Rattle.c_api_calls.specs.Tests.{keeps}
use Rattle.c_api_calls.specs.ListCall.{circle_call, list_blossom}
use Rattle.c_api_calls.specs.laws.Done.{call-done, other-done}
use borrow.Author.Rules.{rules}
use Rattle.c_api_calls.proofs.each.blossom.Goals as goal

pub returns-then-circles-end : goal.returns-then-circles-end
unfolding circle_call
returns-then-circles-end c =
    let k = c.other.ensures in
    rw (
      ← c.word-y.ensures.0,
      ← c.word-z.ensures.0,
      lt-leb _ _ c.if-circles-end.true,
    )
    (other-done c.requires.0.accepted c.requires.2 k.0 k.1 k.2 c.requires.0.cleared)

pub returns : goal.returns
unfolding circle_call ListedTold keeps
returns c =
    let y = c.word-y.result in
    let z = c.word-z.result in
    let e : y + z - y ≡ z = omega arith in
    let r = rw e at c.insert_blossom-k.ensures in
    let k = c.tell_known.ensures in
    rw (
      ← c.word-x.ensures.0,
      ← c.word-y.ensures.0,
      ← c.word-z.ensures.0,
      le-leb _ _ c.if-circles-end.false,
    )
    (call-done (list_blossom _ _) _ (told-all (omega arith) _ r.0 k.0) r.1 r.2 k.1 k.2)
